use Rattle.std.proofs.Common.{◌≡◌, ◌++◌}
use Rattle.base_sequences.proofs.sequence.numbers.Sequence+u64.in_order.Given as goal

abbrev pub invariant-loop-number : goal.invariant-loop-number
invariant-loop-number l = l.numbers ++ l.number-iterator ≡ l.set.keys
