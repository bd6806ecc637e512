use Rattle.table_nodes.proofs.GrownLemmas.{grown}
use Rattle.table_nodes.proofs.laws.branches_grow.Goals as goal

pub returns : goal.returns
returns c = λ t u nodes old new ext all. grown t u nodes ext old new all
