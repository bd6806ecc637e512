use Rattle.std.proofs.Common.{◌≡◌, ◌++◌}
use Rattle.base_sequences.proofs.sequence.Sequence.of_set.Given as goal

abbrev pub invariant-loop-item : goal.invariant-loop-item
invariant-loop-item g l = l.items ++ l.item-iterator ≡ l.fn.set.keys
