use Rattle.std.proofs.Common.{length, ◌-◌}
use Rattle.http_bytes.specs.Pieces.{Came}
use Rattle.http_bytes.proofs.body.fill.Given as goal

abbrev pub invariant-pieces : goal.invariant-pieces
invariant-pieces g l =
    Came (g.R.Read.remaining l.initial.reader) (g.R.Read.remaining l.reader) l.initial.buf l.buf l.filled l.total

abbrev pub decreases-pieces : goal.decreases-pieces
decreases-pieces g l = length l.initial.buf - l.total
