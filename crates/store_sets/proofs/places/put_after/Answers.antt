use Rattle.std.proofs.Common.{rules, arith}
use Rattle.std.proofs.lemmas.Grind.{common_steps}
use Rattle.store_sets.proofs.places.put_after.Goals as goal

pub returns-in_err-put_one_after-clause-ok : goal.returns-in_err-put_one_after-clause-ok
returns-in_err-put_one_after-clause-ok c = search rules

pub loop-member-preserved : goal.loop-member-preserved
loop-member-preserved c = grind (arith, common_steps)
