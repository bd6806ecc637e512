use Rattle.std.proofs.Common.{◌≡◌, ◌||◌, ℕ, drop}
use Rattle.std.specs.BTreeSet.{contains}
use Rattle.std.specs.Ordering.{nat_cmp}
use Rattle.bug_record.specs.Sets.{has}
use Rattle.bug_record.specs.Images.{numbers_of}
use Rattle.message_plans.proofs.images.add_members.Given as goal

abbrev pub invariant-loop-member : goal.invariant-loop-member
invariant-loop-member l =
    (n : ℕ) → (has (numbers_of (drop l.member-index l.members)) n || contains nat_cmp l.bugs n)
    ≡ (has (numbers_of l.members) n || contains nat_cmp l.fn.bugs n)
