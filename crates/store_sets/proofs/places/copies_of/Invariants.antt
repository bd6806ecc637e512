use Rattle.std.proofs.Common.{◌≡◌, take}
use Rattle.store_sets.proofs.places.copies_of.Given as goal

abbrev pub invariant-loop-image : goal.invariant-loop-image
invariant-loop-image l = l.copies.items ≡ take l.image-index l.images
