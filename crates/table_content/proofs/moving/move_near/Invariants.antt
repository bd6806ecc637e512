use Rattle.std.proofs.Common.{◌≡◌, ◌++◌}
use Rattle.table_content.specs.EditLists.{near_moves}
use Rattle.table_content.proofs.moving.move_near.Given as goal

abbrev pub invariant-loop-row : goal.invariant-loop-row
invariant-loop-row l =
    l.edits ++ near_moves l.key l.found l.fixed l.row-iterator.rest.items ≡ l.fn.edits ++ near_moves l.key l.found l.fixed l.fn.rows.items
