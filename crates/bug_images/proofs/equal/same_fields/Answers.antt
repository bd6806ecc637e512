use Rattle.std.proofs.Common.{rules, arith}
use Rattle.std.proofs.lemmas.Grind.{common_steps}
use Rattle.bug_images.proofs.equal.same_fields.Goals as goal

pub returns-then-eq-5 : goal.returns-then-eq-5
returns-then-eq-5 c = search rules

pub returns-else-eq-5 : goal.returns-else-eq-5
returns-else-eq-5 c = grind (arith, common_steps)
