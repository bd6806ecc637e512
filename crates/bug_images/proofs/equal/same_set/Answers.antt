use Rattle.std.proofs.Common.{arith}
use Rattle.std.proofs.lemmas.Grind.{common_steps}
use Rattle.bug_images.proofs.equal.same_set.Goals as goal

pub returns-else-same_numbers : goal.returns-else-same_numbers
returns-else-same_numbers c = grind (arith, common_steps)
