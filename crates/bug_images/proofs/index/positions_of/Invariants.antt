use Rattle.std.proofs.Common.{◌≡◌, ℕ, drop}
use Rattle.std.specs.BTreeMap.{get}
use Rattle.std.specs.Option.{option_or}
use Rattle.std.specs.Ordering.{nat_cmp}
use Rattle.bug_images.specs.Index.{position_in}
use Rattle.bug_images.proofs.index.positions_of.Given as goal

abbrev pub invariant-loop-position : goal.invariant-loop-position
invariant-loop-position l =
    (n : ℕ) → option_or (get nat_cmp l.positions n) (position_in l.position (drop l.position l.images) n)
    ≡ position_in 0 l.images n
