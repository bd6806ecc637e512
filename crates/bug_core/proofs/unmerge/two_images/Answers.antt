use Rattle.std.proofs.Common.{arith}
use Rattle.std.proofs.lemmas.Result.{IfOk-from_err}
use Rattle.std.proofs.lemmas.Grind.{common_steps}
use Rattle.bug_core.proofs.unmerge.two_images.Goals as goal

pub returns : goal.returns
returns c = grind (arith, common_steps)

pub returns-in_err-part_image : goal.returns-in_err-part_image
returns-in_err-part_image c = IfOk-from_err _ _ c.from_residual.ensures.0

pub returns-in_err-part_image-2 : goal.returns-in_err-part_image-2
returns-in_err-part_image-2 c = IfOk-from_err _ _ c.from_residual-in_err-part_image-2.ensures.0

pub returns-in_err-push : goal.returns-in_err-push
returns-in_err-push c = IfOk-from_err _ _ c.from_residual-in_err-push.ensures.0
