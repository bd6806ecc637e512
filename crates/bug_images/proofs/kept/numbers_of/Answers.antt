use Rattle.std.proofs.Common.{arith}
use Rattle.std.proofs.lemmas.Grind.{common_steps}
use Rattle.std.proofs.lemmas.Result.{IfOk-from_err}
use Rattle.bug_images.proofs.kept.numbers_of.Goals as goal

pub returns : goal.returns
returns c = grind (arith, common_steps)

pub returns-in-len1 : goal.returns-in-len1
returns-in-len1 c = grind (arith, common_steps)

pub returns-in_err-add_members : goal.returns-in_err-add_members
returns-in_err-add_members c = IfOk-from_err _ _ c.from_residual.ensures.0
