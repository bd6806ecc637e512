use Rattle.std.proofs.Common.{◌≡◌, ◌++◌, take}
use Rattle.std.specs.Prelude.{filter}
use Rattle.bug_core.specs.Joins.{is_part}
use Rattle.bug_core.proofs.unmerge.add_part.Given as goal

abbrev pub invariant-loop-member : goal.invariant-loop-member
invariant-loop-member l = l.copies ≡ l.fn.copies ++ filter (is_part l.own l.number) (take l.member-index l.members)
