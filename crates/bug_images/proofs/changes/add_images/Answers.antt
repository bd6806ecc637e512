use Rattle.std.proofs.Common.{List, ◌&&◌, ◌∙◌, subst, arith}
use Rattle.std.proofs.lemmas.Result.{IfOk-from_err}
use Rattle.std.proofs.lemmas.Grind.{common_steps}
use Rattle.bug_record.specs.Sets.{has}
use Rattle.bug_record.specs.Images.{numbers_of}
use Rattle.bug_record.specs.declared.bug.Member.{Member}
use Rattle.bug_images.specs.Changes.{differs}
use Rattle.bug_images.specs.Numbers.{IsJoined}
use Rattle.bug_images.proofs.JoinLemmas.{join-image}
use Rattle.bug_images.proofs.changes.add_images.Goals as goal

-- the image's numbers are joined
joined : (c : goal.In_ok-add_members)
    → IsJoined c.loop-image.set.keys
    (λ n. has (numbers_of c.image-item.result.members) n && differs c.args.before.now c.args.after.now n)
    c.add_members.new.set.keys
joined c = subst (λ (z : List Member). IsJoined c.loop-image.set.keys
    (λ n. has (numbers_of z) n && differs c.args.before.now c.args.after.now n) c.add_members.new.set.keys) c.as_slice.ensures
    c.in_ok-add_members.ensures.numbers

pub loop-image-preserved : goal.loop-image-preserved
loop-image-preserved c = record {
  right = c.in_ok-add_members.ensures.right;
  ascending = λ a. (joined c).ascending (c.loop-image.invariant.ascending a);
  numbers = λ n. join-image (differs c.args.before.now c.args.after.now) c.loop-image.set.keys c.add_members.new.set.keys
      c.args.images.now c.loop-image.image-index c.image-item.result c.loop-image-test.true c.image-item.is (joined c) n
      ∙ c.loop-image.invariant.numbers n;
}

pub returns-in_err-add_members-clause-numbers : goal.returns-in_err-add_members-clause-numbers
returns-in_err-add_members-clause-numbers c = IfOk-from_err _ _ c.from_residual.ensures.0

pub returns-in_err-add_members-clause-right : goal.returns-in_err-add_members-clause-right
returns-in_err-add_members-clause-right c = IfOk-from_err _ _ c.from_residual.ensures.0

pub returns-clause-numbers : goal.returns-clause-numbers
returns-clause-numbers c = grind (arith, common_steps)

pub returns-clause-right : goal.returns-clause-right
returns-clause-right c = grind (arith, common_steps)
