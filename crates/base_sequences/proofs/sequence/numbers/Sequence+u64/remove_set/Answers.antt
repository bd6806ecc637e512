use Rattle.std.proofs.Common.{◌∙◌, rules}
use Rattle.std.specs.Prelude.{not, filter}
use Rattle.std.specs.List.{list_any}
use Rattle.std.specs.Ordering.{nat_cmp}
use Rattle.std.specs.BTreeMap.{is_at}
use Rattle.std.proofs.lemmas.Fn.{filter_same}
use Rattle.base_sequences.proofs.OrderedLemmas.{has-key}
use Rattle.base_sequences.proofs.sequence.numbers.Sequence+u64.remove_set.Goals as goal

pub returns : goal.returns
returns c =
    filter_same _ (λ n. not (list_any (is_at (nat_cmp n)) c.args.set.now.keys)) _ (λ x b f' k. search rules) _ _
    c.retain.ensures
    ∙ (λ j. filter (λ n. not (has-key c.args.set.now.keys n j)) c.args.self.now)
