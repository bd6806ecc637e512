use Rattle.table_content.proofs.QuestionLemmas.{asked}
use Rattle.table_content.proofs.laws.bugs_are_asked_by_sets.Goals as goal

pub returns : goal.returns
returns c = λ x test numbers kept up are. asked x test kept numbers up are
