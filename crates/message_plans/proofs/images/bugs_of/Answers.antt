use Rattle.std.proofs.Common.{List, ◌||◌, ap, ◌∙◌}
use Rattle.std.specs.BTreeSet.{contains}
use Rattle.std.specs.Ordering.{nat_cmp}
use Rattle.bug_record.specs.Sets.{has}
use Rattle.bug_record.specs.Images.{numbers_of}
use Rattle.bug_record.specs.declared.bug.Member.{Member}
use Rattle.message_plans.proofs.GatherLemmas.{image-more}
use Rattle.message_plans.proofs.images.bugs_of.Goals as goal

pub loop-image-preserved : goal.loop-image-preserved
loop-image-preserved c = λ n.
    image-more (contains nat_cmp c.loop-image.bugs) (contains nat_cmp c.add_members.new.bugs) c.args.images.now
    c.loop-image.image-index c.image-item.result c.loop-image-test.true c.image-item.is
    (λ m. c.in_ok-add_members.ensures m
    ∙ ap (λ (z : List Member). has (numbers_of z) m || contains nat_cmp c.loop-image.bugs m) c.as_slice.ensures) n
    ∙ c.loop-image.invariant n
