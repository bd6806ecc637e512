use Rattle.table_nodes.proofs.MissingLemmas.{changes}
use Rattle.table_nodes.proofs.laws.grown_nodes_change.Goals as goal

pub returns : goal.returns
returns c = changes
