use Rattle.table_content.proofs.QuestionLemmas.{nearest_kind}
use Rattle.table_content.proofs.laws.kinds_are_nearest.Goals as goal

pub returns : goal.returns
returns c = nearest_kind
