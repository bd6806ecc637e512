use Rattle.std.proofs.Common.{refl}
use Rattle.table_content.proofs.KeepLemmas.{keeping_is, kept_also-kept}
use Rattle.table_content.proofs.laws.outcomes_are_kept.Goals as goal

pub returns-clause-desk : goal.returns-clause-desk
returns-clause-desk c = λ x id sender message outcome. refl

pub returns-clause-keeping : goal.returns-clause-keeping
returns-clause-keeping c = λ x id sender message outcome kept. keeping_is x kept id sender message outcome

pub returns-clause-kept : goal.returns-clause-kept
returns-clause-kept c = λ x id sender message outcome kept good. kept_also-kept x kept id sender message outcome good
