use Rattle.std.proofs.Common.{arith}
use Rattle.std.proofs.lemmas.Grind.{common_steps}
use Rattle.std.proofs.lemmas.Result.{IfOk-from_err}
use Rattle.bug_core.proofs.unmerge.add_part.Goals as goal

pub returns-in_err-add_copy : goal.returns-in_err-add_copy
returns-in_err-add_copy c = IfOk-from_err _ _ c.from_residual.ensures.0

pub loop-member-preserved : goal.loop-member-preserved
loop-member-preserved c = grind (arith, common_steps)
