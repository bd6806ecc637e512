use Rattle.std.proofs.Common.{arith}
use Rattle.std.proofs.lemmas.Grind.{common_steps}
use Rattle.bug_core.proofs.by_number.add_unless_first.Goals as goal

pub returns-then-starts_with : goal.returns-then-starts_with
returns-then-starts_with c = grind (arith, common_steps)

pub returns : goal.returns
returns c = grind (arith, common_steps)
