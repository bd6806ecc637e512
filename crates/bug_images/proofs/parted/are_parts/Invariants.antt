use Rattle.std.proofs.Common.{drop}
use Rattle.bug_record.specs.Images.{numbers_of}
use Rattle.bug_images.specs.Parted.{numbers_in, AreAmong}
use Rattle.bug_images.proofs.parted.are_parts.Given as goal

abbrev pub invariant-loop-part : goal.invariant-loop-part
invariant-loop-part l =
    AreAmong (numbers_in (drop l.part-index l.parts)) (numbers_of l.whole)
    → AreAmong (numbers_in l.parts) (numbers_of l.whole)
