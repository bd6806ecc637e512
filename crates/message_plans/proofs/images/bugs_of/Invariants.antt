use Rattle.std.proofs.Common.{◌≡◌, ◌||◌, ℕ, drop}
use Rattle.std.specs.BTreeSet.{contains}
use Rattle.std.specs.Ordering.{nat_cmp}
use Rattle.message_plans.specs.Images.{is_gathered}
use Rattle.message_plans.proofs.images.bugs_of.Given as goal

abbrev pub invariant-loop-image : goal.invariant-loop-image
invariant-loop-image l =
    (n : ℕ) → (is_gathered (drop l.image-index l.images) n || contains nat_cmp l.bugs n) ≡ is_gathered l.images n
