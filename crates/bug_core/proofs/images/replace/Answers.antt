use Rattle.std.proofs.Common.{arith}
use Rattle.std.proofs.lemmas.Result.{IfOk-from_err}
use Rattle.std.proofs.lemmas.Grind.{common_steps}
use Rattle.bug_core.proofs.images.replace.Goals as goal

pub returns-in_err-add_others-clause-images : goal.returns-in_err-add_others-clause-images
returns-in_err-add_others-clause-images c = IfOk-from_err _ _ c.from_residual.ensures.0

pub returns-in_err-add_others-clause-next : goal.returns-in_err-add_others-clause-next
returns-in_err-add_others-clause-next c = IfOk-from_err _ _ c.from_residual.ensures.0

pub returns-clause-images : goal.returns-clause-images
returns-clause-images c = grind (arith, common_steps)

pub returns-clause-next : goal.returns-clause-next
returns-clause-next c = grind (arith, common_steps)
