use Rattle.std.proofs.Common.{◌≡◌, List, ℕ, ◌++◌, ap, ◌∙◌}
use Rattle.base_sequences.specs.Sets.{with_items, number_set}
use Rattle.base_sequences.proofs.NumberLemmas.{with_items-append}
use Rattle.base_sequences.proofs.sequence.numbers.Sequence+u64.add_all.Goals as goal

pub returns-clause-ok : goal.returns-clause-ok
returns-clause-ok c =
    let set : c.add_numbers.new.set.keys ≡ with_items (λ n. n) (number_set c.as_slice.result.now) c.args.numbers.now
    = c.in_ok-add_numbers.ensures ∙ ap (λ (ks : List ℕ). with_items (λ n. n) ks c.args.numbers.now) c.in_ok-set.ensures in
    c.in_ok-self.ensures ∙ set ∙ with_items-append c.as_slice.result.now c.args.numbers.now
    ∙ ap (λ (ms : List ℕ). number_set (ms ++ c.args.numbers.now)) c.as_slice.ensures
