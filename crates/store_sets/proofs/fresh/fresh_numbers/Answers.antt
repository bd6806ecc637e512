use Rattle.std.proofs.Common.{rules, arith}
use Rattle.std.proofs.lemmas.Grind.{common_steps}
use Rattle.store_sets.proofs.fresh.fresh_numbers.Goals as goal

pub returns-in_err-add_fresh : goal.returns-in_err-add_fresh
returns-in_err-add_fresh c = search rules

pub loop-image-preserved : goal.loop-image-preserved
loop-image-preserved c = grind (arith, common_steps)
