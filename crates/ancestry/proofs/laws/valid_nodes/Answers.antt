use Rattle.version_nodes.proofs.ReadLemmas.{nodes_exactly}
use Rattle.ancestry.proofs.laws.valid_nodes.Goals as goal

pub returns : goal.returns
returns c = nodes_exactly
