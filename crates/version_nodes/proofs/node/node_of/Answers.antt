use Rattle.std.proofs.Common.{arith}
use Rattle.std.proofs.lemmas.Grind.{common_steps}
use Rattle.version_nodes.proofs.node.node_of.Goals as goal

pub of_name_and_version-requires-clause-version : goal.of_name_and_version-requires-clause-version
of_name_and_version-requires-clause-version c = grind (arith, common_steps)
