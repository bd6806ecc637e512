use Rattle.std.proofs.Common.{arith}
use Rattle.std.proofs.lemmas.Grind.{common_steps}
use Rattle.bug_images.proofs.refusals.first_in.Goals as goal

pub loop-blocker-preserved : goal.loop-blocker-preserved
loop-blocker-preserved c = grind (arith, common_steps)

pub returns-then-is_in : goal.returns-then-is_in
returns-then-is_in c = grind (arith, common_steps)
