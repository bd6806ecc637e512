use Rattle.std.proofs.Common.{arith}
use Rattle.std.proofs.lemmas.Grind.{common_steps}
use Rattle.bug_fields.proofs.gathered.is_ordered.Goals as goal

pub loop-node-preserved : goal.loop-node-preserved
loop-node-preserved c = grind (arith, common_steps)

pub returns-then-not-comes_after : goal.returns-then-not-comes_after
returns-then-not-comes_after c = grind (arith, common_steps)
