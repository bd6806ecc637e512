use Rattle.std.proofs.Common.{arith}
use Rattle.std.proofs.lemmas.Grind.{common_steps}
use Rattle.bug_core.proofs.clones.add_clones.Goals as goal

pub returns-clause-images : goal.returns-clause-images
returns-clause-images c = grind (arith, common_steps)
