use Rattle.std.proofs.Common.{arith}
use Rattle.std.proofs.lemmas.Grind.{common_steps}
use Rattle.std.proofs.lemmas.Result.{IfOk-from_err}
use Rattle.bug_images.proofs.refusals.archive_refusal.Goals as goal

pub returns-in-None : goal.returns-in-None
returns-in-None c = grind (arith, common_steps)

pub returns-in_err-copy-in-Some : goal.returns-in_err-copy-in-Some
returns-in_err-copy-in-Some c = IfOk-from_err _ _ c.from_residual.ensures.0

pub returns-in_ok-copy-in-Some : goal.returns-in_ok-copy-in-Some
returns-in_ok-copy-in-Some c = grind (arith, common_steps)

pub returns-then-not-fields : goal.returns-then-not-fields
returns-then-not-fields c = grind (arith, common_steps)
