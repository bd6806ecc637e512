use Rattle.table_nodes.proofs.MissingLemmas.{missing}
use Rattle.table_nodes.proofs.laws.rows_are_missing.Goals as goal

pub returns : goal.returns
returns c = λ x u changed nodes rows kept grown are on. missing x u changed nodes rows kept grown are on
