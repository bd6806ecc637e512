use Rattle.std.proofs.Common.{arith}
use Rattle.std.proofs.lemmas.Grind.{common_steps}
use Rattle.version_marks.proofs.near.rows_of_marks.Goals as goal

pub loop-mark-preserved : goal.loop-mark-preserved
loop-mark-preserved c = grind (arith, common_steps)

pub loop-mark-preserved-in_ok-push : goal.loop-mark-preserved-in_ok-push
loop-mark-preserved-in_ok-push c = grind (arith, common_steps)
