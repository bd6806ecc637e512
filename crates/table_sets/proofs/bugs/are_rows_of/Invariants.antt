use Rattle.table_sets.proofs.Imports.{AreMemberRows}
use Rattle.table_schema.proofs.Exports.{◌≡◌, List, take, Member}
use Rattle.table_sets.proofs.bugs.are_rows_of.Given as goal

abbrev pub invariant-loop-i : goal.invariant-loop-i
invariant-loop-i l = (ms : List Member) → AreMemberRows l.rows ms → take l.i ms ≡ take l.i l.members
