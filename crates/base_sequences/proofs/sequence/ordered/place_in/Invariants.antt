use Rattle.std.proofs.Common.{◌≡◌, ◌+◌, drop}
use Rattle.base_sequences.specs.Places.{place_in}
use Rattle.base_sequences.proofs.sequence.ordered.place_in.Given as goal

abbrev pub invariant-loop-i : goal.invariant-loop-i
invariant-loop-i g l = l.i + place_in g.T.Ord.cmp (drop l.i l.items) l.item ≡ place_in g.T.Ord.cmp l.items l.item
