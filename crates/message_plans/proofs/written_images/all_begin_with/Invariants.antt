use Rattle.std.proofs.Common.{◌≡◌, drop}
use Rattle.message_plans.specs.Written.{images_with}
use Rattle.message_plans.proofs.written_images.all_begin_with.Given as goal

-- where the rest of the images is kept, all are
abbrev pub invariant-loop-image : goal.invariant-loop-image
invariant-loop-image l =
    images_with l.numbers (drop l.image-index l.images) ≡ drop l.image-index l.images → images_with l.numbers l.images ≡ l.images
