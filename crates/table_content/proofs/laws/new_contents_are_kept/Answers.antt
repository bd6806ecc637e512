use Rattle.std.proofs.Common.{refl}
use Rattle.table_content.proofs.NewLemmas.{new_kept}
use Rattle.table_content.proofs.laws.new_contents_are_kept.Goals as goal

pub returns-clause-desk : goal.returns-clause-desk
returns-clause-desk c = λ first. refl

pub returns-clause-kept : goal.returns-clause-kept
returns-clause-kept c = new_kept

pub returns-clause-keeping : goal.returns-clause-keeping
returns-clause-keeping c = λ first. refl
