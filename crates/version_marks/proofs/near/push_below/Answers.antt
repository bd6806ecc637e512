use Rattle.std.proofs.Common.{arith}
use Rattle.std.proofs.lemmas.Grind.{common_steps}
use Rattle.version_marks.proofs.near.push_below.Goals as goal

pub loop-child-preserved-in_ok-push : goal.loop-child-preserved-in_ok-push
loop-child-preserved-in_ok-push c = grind (arith, common_steps)
