use Rattle.std.proofs.Common.{◌≤◌, length, take}
use Rattle.bug_record.specs.Images.{numbers_of}
use Rattle.bug_images.specs.Parted.{AreAmong}
use Rattle.bug_images.proofs.parted.are_within.Given as goal

abbrev pub invariant-loop-other : goal.invariant-loop-other
invariant-loop-other l = record {
  within : l.found ≤ length l.members;
  among : AreAmong (numbers_of (take l.found l.members)) (numbers_of l.whole);
}
