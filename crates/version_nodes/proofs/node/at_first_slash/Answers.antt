use Rattle.version_nodes.proofs.ReadLemmas.{cut_at_slash}
use Rattle.version_nodes.proofs.node.at_first_slash.Goals as goal

pub returns-clause-slash : goal.returns-clause-slash
returns-clause-slash c = cut_at_slash c.args.text.now c.split_once.result c.split_once.ensures.cases
