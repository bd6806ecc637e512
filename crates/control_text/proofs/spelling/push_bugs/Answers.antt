use Rattle.std.proofs.Common.{arith}
use Rattle.std.proofs.lemmas.Grind.{common_steps}
use Rattle.control_text.proofs.spelling.push_bugs.Goals as goal

pub loop-bug-preserved : goal.loop-bug-preserved
loop-bug-preserved c = grind (arith, common_steps)
