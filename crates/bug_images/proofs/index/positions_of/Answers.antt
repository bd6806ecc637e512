use Rattle.std.proofs.Common.{arith}
use Rattle.std.proofs.lemmas.Grind.{common_steps}
use Rattle.std.proofs.lemmas.Result.{IfOk-from_err}
use Rattle.bug_images.proofs.index.positions_of.Goals as goal

pub loop-position-preserved : goal.loop-position-preserved
loop-position-preserved c = grind (arith, common_steps)

pub returns-in_err-add_members : goal.returns-in_err-add_members
returns-in_err-add_members c = IfOk-from_err _ _ c.from_residual.ensures.0

pub returns : goal.returns
returns c = grind (arith, common_steps)
