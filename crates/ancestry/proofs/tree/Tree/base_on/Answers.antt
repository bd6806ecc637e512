use Rattle.std.proofs.Common.{arith}
use Rattle.std.proofs.lemmas.Grind.{common_steps}
use Rattle.ancestry.proofs.tree.Tree.base_on.Goals as goal

pub returns-in-Err-clause-forest : goal.returns-in-Err-clause-forest
returns-in-Err-clause-forest c = grind (arith, common_steps)
