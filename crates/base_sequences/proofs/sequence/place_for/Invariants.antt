use Rattle.std.proofs.Common.{◌≡◌, ◌+◌, drop}
use Rattle.base_sequences.specs.Places.{place_for}
use Rattle.base_sequences.proofs.sequence.place_for.Given as goal

abbrev pub invariant-loop-i : goal.invariant-loop-i
invariant-loop-i g l =
    l.i + place_for g.T.Numbered.number (drop l.i l.items) l.number ≡ place_for g.T.Numbered.number l.items l.number
