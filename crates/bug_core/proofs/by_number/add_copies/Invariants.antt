use Rattle.std.proofs.Common.{◌≡◌, ◌++◌, take}
use Rattle.bug_core.proofs.by_number.add_copies.Given as goal

abbrev pub invariant-loop-member : goal.invariant-loop-member
invariant-loop-member l = l.merged ≡ l.fn.merged ++ take l.member-index l.members
