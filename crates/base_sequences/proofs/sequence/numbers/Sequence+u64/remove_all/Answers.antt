use Rattle.std.proofs.Common.{ap, ◌∙◌}
use Rattle.std.specs.Prelude.{not, filter}
use Rattle.base_sequences.specs.Sets.{has}
use Rattle.base_sequences.proofs.SetLemmas.{has-number_set}
use Rattle.base_sequences.proofs.sequence.numbers.Sequence+u64.remove_all.Goals as goal

pub returns-clause-ok : goal.returns-clause-ok
returns-clause-ok c =
    c.remove_set.ensures
    ∙ (λ j. filter (λ n. not ((ap (λ ks. has ks n) c.in_ok-set.ensures ∙ has-number_set c.args.numbers.now n) j))
    c.args.self.now)
