use Rattle.std.proofs.Common.{arith}
use Rattle.std.proofs.lemmas.Grind.{common_steps}
use Rattle.bug_images.proofs.parted.is_unlike.Goals as goal

pub returns-then-same_numbers : goal.returns-then-same_numbers
returns-then-same_numbers c = grind (arith, common_steps)

pub loop-other-preserved : goal.loop-other-preserved
loop-other-preserved c = grind (arith, common_steps)

pub returns : goal.returns
returns c = grind (arith, common_steps)
