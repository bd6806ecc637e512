use Rattle.std.proofs.Common.{arith}
use Rattle.std.proofs.lemmas.Grind.{common_steps}
use Rattle.http_bytes.proofs.body_size.values_of.Goals as goal

pub loop-header-preserved : goal.loop-header-preserved
loop-header-preserved c = grind (arith, common_steps)
