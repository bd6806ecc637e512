use Rattle.std.proofs.Common.{arith}
use Rattle.std.proofs.lemmas.Result.{IfOk-from_err}
use Rattle.std.proofs.lemmas.Grind.{common_steps}
use Rattle.bug_core.proofs.joins.put_gathered.Goals as goal

pub returns : goal.returns
returns c = grind (arith, common_steps)

pub returns-in_err-shared : goal.returns-in_err-shared
returns-in_err-shared c = IfOk-from_err _ _ c.from_residual.ensures.0

pub returns-in_err-put_nodes : goal.returns-in_err-put_nodes
returns-in_err-put_nodes c = IfOk-from_err _ _ c.from_residual-in_err-put_nodes.ensures.0

pub returns-in_err-put_nodes-2 : goal.returns-in_err-put_nodes-2
returns-in_err-put_nodes-2 c = IfOk-from_err _ _ c.from_residual-in_err-put_nodes-2.ensures.0

pub returns-in_err-shared-2 : goal.returns-in_err-shared-2
returns-in_err-shared-2 c = IfOk-from_err _ _ c.from_residual-in_err-shared-2.ensures.0
