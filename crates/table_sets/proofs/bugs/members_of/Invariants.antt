use Rattle.table_sets.proofs.Imports.{AreMemberRows}
use Rattle.table_schema.proofs.Exports.{◌≡◌, List, take, Member}
use Rattle.table_sets.proofs.bugs.members_of.Given as goal

abbrev pub invariant-loop-row : goal.invariant-loop-row
invariant-loop-row l = (ms : List Member) → AreMemberRows l.rows ms → l.members ≡ take l.row-index ms
