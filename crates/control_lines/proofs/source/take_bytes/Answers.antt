use Rattle.std.proofs.Common.{arith}
use Rattle.std.proofs.lemmas.Grind.{common_steps}
use Rattle.control_lines.proofs.source.take_bytes.Goals as goal

pub returns-clause-line : goal.returns-clause-line
returns-clause-line c = grind (arith, common_steps)

pub returns-then-count-len-clause-fault : goal.returns-then-count-len-clause-fault
returns-then-count-len-clause-fault c = grind (arith, common_steps)
