use Rattle.std.proofs.Common.{◌≡◌, map, take}
use Rattle.bug_fields.specs.Members.{member_after}
use Rattle.bug_fields.proofs.members.members_after.Given as goal

abbrev pub invariant-loop-member : goal.invariant-loop-member
invariant-loop-member l = l.after ≡ map (member_after l.from l.command l.old) (take l.member-index l.members)
