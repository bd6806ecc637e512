use Rattle.std.proofs.Common.{arith}
use Rattle.std.proofs.lemmas.Grind.{common_steps}
use Rattle.bug_images.proofs.equal.same_numbers.Goals as goal

pub returns-then-a-i : goal.returns-then-a-i
returns-then-a-i c = grind (arith, common_steps)

pub loop-i-preserved : goal.loop-i-preserved
loop-i-preserved c = grind (arith, common_steps)

pub returns : goal.returns
returns c = grind (arith, common_steps)

pub returns-then-a-b : goal.returns-then-a-b
returns-then-a-b c = grind (arith, common_steps)
