use Rattle.std.proofs.Common.{◌≡◌, drop}
use Rattle.bug_record.specs.Images.{bug_in}
use Rattle.bug_images.proofs.lookup.find_in.Given as goal

abbrev pub invariant-loop-image : goal.invariant-loop-image
invariant-loop-image l = bug_in (drop l.image-index l.images) l.number ≡ bug_in l.images l.number
