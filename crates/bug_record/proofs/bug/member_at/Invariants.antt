use Rattle.std.proofs.Common.{◌≡◌, drop}
use Rattle.bug_record.specs.Images.{member_at}
use Rattle.bug_record.proofs.bug.member_at.Given as goal

abbrev pub invariant-loop-member : goal.invariant-loop-member
invariant-loop-member l = member_at (drop l.member-index l.members) l.number ≡ member_at l.members l.number
