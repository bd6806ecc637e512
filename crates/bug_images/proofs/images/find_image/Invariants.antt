use Rattle.std.proofs.Common.{◌≡◌, drop}
use Rattle.bug_record.specs.Images.{image_with}
use Rattle.bug_images.proofs.images.find_image.Given as goal

abbrev pub invariant-loop-image : goal.invariant-loop-image
invariant-loop-image l = image_with (drop l.image-index l.images) l.number ≡ image_with l.images l.number
