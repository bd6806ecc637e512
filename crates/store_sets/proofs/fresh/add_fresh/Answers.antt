use Rattle.std.proofs.Common.{rules, arith}
use Rattle.std.proofs.lemmas.Grind.{common_steps}
use Rattle.store_sets.proofs.fresh.add_fresh.Goals as goal

pub returns-in_err-push : goal.returns-in_err-push
returns-in_err-push c = search rules

pub loop-member-preserved : goal.loop-member-preserved
loop-member-preserved c = record {
  known = λ n h. c.loop-member.invariant.known n (c.from_number-left.ensures n h);
  numbers = grind (arith, common_steps);
}
