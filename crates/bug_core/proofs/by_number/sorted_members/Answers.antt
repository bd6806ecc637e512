use Rattle.std.proofs.lemmas.Result.{IfOk-from_err}
use Rattle.bug_core.proofs.by_number.sorted_members.Goals as goal

pub returns-in_err-map : goal.returns-in_err-map
returns-in_err-map c = IfOk-from_err _ _ c.from_residual.ensures.0
