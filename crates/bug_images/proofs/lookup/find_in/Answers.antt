use Rattle.std.proofs.Common.{arith}
use Rattle.std.proofs.lemmas.Grind.{common_steps}
use Rattle.bug_images.proofs.lookup.find_in.Goals as goal

pub loop-image-preserved : goal.loop-image-preserved
loop-image-preserved c = grind (arith, common_steps)

pub returns-in-Some : goal.returns-in-Some
returns-in-Some c = grind (arith, common_steps)
