use Rattle.std.proofs.Common.{arith}
use Rattle.std.proofs.lemmas.Grind.{common_steps}
use Rattle.bug_images.proofs.equal.differ_at_once.Goals as goal

pub returns-else-as_slice-2 : goal.returns-else-as_slice-2
returns-else-as_slice-2 c = grind (arith, common_steps)

pub returns-then-as_slice-2 : goal.returns-then-as_slice-2
returns-then-as_slice-2 c = grind (arith, common_steps)
