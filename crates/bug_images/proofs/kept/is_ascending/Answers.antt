use Rattle.std.proofs.Common.{arith}
use Rattle.std.proofs.lemmas.Grind.{common_steps}
use Rattle.bug_images.proofs.kept.is_ascending.Goals as goal

pub loop-member-preserved : goal.loop-member-preserved
loop-member-preserved c = grind (arith, common_steps)

pub returns-then-not-is_above : goal.returns-then-not-is_above
returns-then-not-is_above c = grind (arith, common_steps)
