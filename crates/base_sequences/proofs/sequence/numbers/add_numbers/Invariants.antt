use Rattle.std.proofs.Common.{◌≡◌, drop}
use Rattle.base_sequences.specs.Sets.{with_items}
use Rattle.base_sequences.proofs.sequence.numbers.add_numbers.Given as goal

abbrev pub invariant-loop-number : goal.invariant-loop-number
invariant-loop-number l =
    with_items (λ n. n) l.set.keys (drop l.number-index l.numbers) ≡ with_items (λ n. n) l.fn.set.keys l.numbers
