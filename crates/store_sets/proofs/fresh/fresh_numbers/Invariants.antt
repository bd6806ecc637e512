use Rattle.std.proofs.Common.{◌≡◌, ◌++◌, drop}
use Rattle.std.specs.Prelude.{filter}
use Rattle.store_sets.specs.PlacesOfImages.{numbers_in, is_fresh}
use Rattle.store_sets.proofs.fresh.fresh_numbers.Given as goal

abbrev pub invariant-loop-image : goal.invariant-loop-image
invariant-loop-image l =
    l.fresh.items ++ filter (is_fresh l.bugs) (numbers_in (drop l.image-index l.images)) ≡ filter (is_fresh l.bugs)
    (numbers_in l.images)
