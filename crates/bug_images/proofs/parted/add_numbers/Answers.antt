use Rattle.std.proofs.Common.{arith}
use Rattle.std.proofs.lemmas.Grind.{common_steps}
use Rattle.std.proofs.lemmas.Result.{IfOk-from_err}
use Rattle.bug_images.proofs.parted.add_numbers.Goals as goal

pub returns-in_err-add_members : goal.returns-in_err-add_members
returns-in_err-add_members c = IfOk-from_err _ _ c.from_residual.ensures.0

pub loop-image-preserved : goal.loop-image-preserved
loop-image-preserved c = grind (arith, common_steps)

pub returns : goal.returns
returns c = grind (arith, common_steps)
