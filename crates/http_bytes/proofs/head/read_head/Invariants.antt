use Rattle.std.proofs.Common.{length, ◌-◌, ◌≡◌, ◌≤◌, take}
use Rattle.std.specs.Io.KnownBytes.{Consumes}
use Rattle.httparse.specs.Grammar.{HasNoRequest}
use Rattle.http_bytes.specs.Found.{IsUnfinished, GaveHead}
use Rattle.http_bytes.proofs.head.read_head.Given as goal

abbrev pub invariant-pieces : goal.invariant-pieces
invariant-pieces g l = record {
  took : Consumes (g.R.Read.remaining l.initial.reader) (g.R.Read.remaining l.reader) (take l.filled l.buf);
  fits : l.filled ≤ length l.buf;
  room : length l.buf ≡ 8192;
  slots : length l.headers ≡ 32;
  none_yet : HasNoRequest (take l.filled l.buf);
  unfinished : IsUnfinished (take l.filled l.buf);
  gave : GaveHead (g.R.Read.remaining l.initial.reader) (g.R.Read.remaining l.reader) (take l.filled l.buf);
}

abbrev pub decreases-pieces : goal.decreases-pieces
decreases-pieces g l = length l.initial.buf - l.filled
