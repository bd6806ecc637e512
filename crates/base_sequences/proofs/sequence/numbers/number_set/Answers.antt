use Rattle.std.proofs.Common.{ℕ, List, ap, ◌∙◌}
use Rattle.base_sequences.specs.Sets.{with_items}
use Rattle.base_sequences.proofs.NumberLemmas.{with_items-set}
use Rattle.base_sequences.proofs.sequence.numbers.number_set.Goals as goal

pub returns : goal.returns
returns c =
    c.in_ok-add_numbers.ensures ∙ ap (λ (ks : List ℕ). with_items (λ n. n) ks c.args.numbers.now) c.new-set.ensures.empty
    ∙ with_items-set c.args.numbers.now
