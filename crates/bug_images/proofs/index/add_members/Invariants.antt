use Rattle.std.proofs.Common.{◌≡◌, ℕ, drop}
use Rattle.std.specs.BTreeMap.{get}
use Rattle.std.specs.Option.{option_or}
use Rattle.std.specs.Ordering.{nat_cmp}
use Rattle.bug_images.specs.Index.{position_among}
use Rattle.bug_images.proofs.index.add_members.Given as goal

abbrev pub invariant-loop-member : goal.invariant-loop-member
invariant-loop-member l =
    (n : ℕ) → option_or (get nat_cmp l.positions n) (position_among l.image l.member (drop l.member l.members) n)
    ≡ option_or (get nat_cmp l.fn.positions n) (position_among l.image 0 l.members n)
