use Rattle.std.proofs.Common.{refl}
use Rattle.table_content.proofs.QuestionLemmas.{branch_kept}
use Rattle.table_content.proofs.laws.branches_are_put.Goals as goal

pub returns-clause-desk : goal.returns-clause-desk
returns-clause-desk c = λ x t. refl

pub returns-clause-kept : goal.returns-clause-kept
returns-clause-kept c = branch_kept

pub returns-clause-keeping : goal.returns-clause-keeping
returns-clause-keeping c = λ x t. refl
