use Rattle.std.proofs.Common.{arith}
use Rattle.std.proofs.lemmas.Grind.{common_steps}
use Rattle.base_sequences.proofs.sequence.place_for.Goals as goal

pub loop-i-preserved : goal.loop-i-preserved
loop-i-preserved g c = grind (arith, common_steps)

pub returns : goal.returns
returns g c = grind (arith, common_steps)

pub returns-then-number : goal.returns-then-number
returns-then-number g c = grind (arith, common_steps)
