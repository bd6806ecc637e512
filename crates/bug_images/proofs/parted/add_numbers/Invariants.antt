use Rattle.std.proofs.Common.{◌≡◌, ◌++◌, drop}
use Rattle.bug_images.specs.Parted.{numbers_in}
use Rattle.bug_images.proofs.parted.add_numbers.Given as goal

abbrev pub invariant-loop-image : goal.invariant-loop-image
invariant-loop-image l = l.numbers.items ++ numbers_in (drop l.image-index l.images) ≡ l.fn.numbers.items ++ numbers_in l.images
