use Rattle.std.proofs.Common.{◌≡◌, None, drop}
use Rattle.bug_record.specs.Images.{numbers_of}
use Rattle.bug_images.specs.Kept.{ascends}
use Rattle.bug_core.proofs.by_number.is_ascending.Given as goal

abbrev pub invariant-loop-member : goal.invariant-loop-member
invariant-loop-member l = ascends l.last (numbers_of (drop l.member-index l.members)) ≡ ascends None (numbers_of l.members)
