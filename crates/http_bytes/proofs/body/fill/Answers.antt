use Rattle.std.proofs.Common.{arith}
use Rattle.std.proofs.lemmas.Grind.{common_steps}
use Rattle.http_bytes.proofs.body.fill.Goals as goal

pub pieces-preserved : goal.pieces-preserved
pieces-preserved g c = grind (arith, common_steps)
