use Rattle.std.proofs.Common.{◌≡◌, drop}
use Rattle.bug_images.specs.Parted.{is_unlike}
use Rattle.bug_images.proofs.parted.is_unlike.Given as goal

abbrev pub invariant-loop-other : goal.invariant-loop-other
invariant-loop-other l = is_unlike l.image (drop l.other-index l.others) ≡ is_unlike l.image l.others
