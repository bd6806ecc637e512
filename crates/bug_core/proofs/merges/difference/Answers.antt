use Rattle.std.proofs.Common.{arith}
use Rattle.std.proofs.lemmas.Grind.{common_steps}
use Rattle.bug_core.proofs.merges.difference.Goals as goal

pub returns-then-ne : goal.returns-then-ne
returns-then-ne c = grind (arith, common_steps)

pub returns-in-FourFields : goal.returns-in-FourFields
returns-in-FourFields c = grind (arith, common_steps)

pub returns-in-FourFields-2 : goal.returns-in-FourFields-2
returns-in-FourFields-2 c = grind (arith, common_steps)

pub returns-in-FourFields-3 : goal.returns-in-FourFields-3
returns-in-FourFields-3 c = grind (arith, common_steps)

pub returns-in-FourFields-4 : goal.returns-in-FourFields-4
returns-in-FourFields-4 c = grind (arith, common_steps)

pub returns-in-PackageAlone : goal.returns-in-PackageAlone
returns-in-PackageAlone c = grind (arith, common_steps)
