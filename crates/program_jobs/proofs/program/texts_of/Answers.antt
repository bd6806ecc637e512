use Rattle.std.proofs.Common.{arith}
use Rattle.std.proofs.lemmas.Grind.{common_steps}
use Rattle.program_jobs.proofs.program.texts_of.Goals as goal

pub loop-string-preserved : goal.loop-string-preserved
loop-string-preserved c = grind (arith, common_steps)
