use Rattle.std.proofs.Common.{arith, rules}
use Rattle.std.proofs.lemmas.Grind.{common_steps}
use Rattle.bug_fields.proofs.versions.is_below.Goals as goal

pub cut-requires : goal.cut-requires
cut-requires c = grind (arith, common_steps)

pub cut-requires-2 : goal.cut-requires-2
cut-requires-2 c = grind (arith, common_steps)

pub returns : goal.returns
returns c = search rules
