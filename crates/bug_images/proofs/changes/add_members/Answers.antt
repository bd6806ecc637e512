use Rattle.std.proofs.Common.{◌∙◌, arith}
use Rattle.std.proofs.lemmas.Result.{IfOk-from_err}
use Rattle.std.proofs.lemmas.Grind.{common_steps}
use Rattle.bug_images.specs.Changes.{differs}
use Rattle.bug_images.proofs.JoinLemmas.{join-member}
use Rattle.bug_images.proofs.changes.add_members.Goals as goal

pub loop-member-preserved : goal.loop-member-preserved
loop-member-preserved c = record {
  right = c.in_ok-add_number.ensures.right;
  ascending = λ a. c.in_ok-add_number.ensures.numbers.ascending (c.loop-member.invariant.ascending a);
  numbers = λ n. join-member (differs c.args.before.now c.args.after.now) c.loop-member.set.keys c.add_number.new.set.keys
      c.args.members.now c.loop-member.member-index c.member-item.result c.loop-member-test.true c.member-item.is
      c.in_ok-add_number.ensures.numbers n ∙ c.loop-member.invariant.numbers n;
}

pub returns-in_err-add_number-clause-numbers : goal.returns-in_err-add_number-clause-numbers
returns-in_err-add_number-clause-numbers c = IfOk-from_err _ _ c.from_residual.ensures.0

pub returns-in_err-add_number-clause-right : goal.returns-in_err-add_number-clause-right
returns-in_err-add_number-clause-right c = IfOk-from_err _ _ c.from_residual.ensures.0

pub returns-clause-numbers : goal.returns-clause-numbers
returns-clause-numbers c = grind (arith, common_steps)

pub returns-clause-right : goal.returns-clause-right
returns-clause-right c = grind (arith, common_steps)
