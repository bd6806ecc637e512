use Rattle.table_content.proofs.StandLemmas.{stand}
use Rattle.table_content.proofs.laws.sets_stay.Goals as goal

pub returns : goal.returns
returns c = stand
