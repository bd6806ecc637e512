use Rattle.std.proofs.Common.{arith}
use Rattle.std.proofs.lemmas.Grind.{common_steps}
use Rattle.ancestry.proofs.HeightLemmas.{above-first, above-others}
use Rattle.ancestry.proofs.indexed.IndexedLine.any_above.Goals as goal

pub loop-node-preserved : goal.loop-node-preserved
loop-node-preserved c = grind (arith, common_steps, above-first, above-others)
