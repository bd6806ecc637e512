use Rattle.std.proofs.Common.{arith}
use Rattle.std.proofs.lemmas.Grind.{common_steps}
use Rattle.bug_core.proofs.joins.Joined.add_shared.Goals as goal

pub returns : goal.returns
returns c = grind (arith, common_steps)
