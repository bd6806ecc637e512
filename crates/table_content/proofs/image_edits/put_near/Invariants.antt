use Rattle.std.proofs.Common.{◌≡◌, ◌++◌}
use Rattle.table_content.specs.EditLists.{near_puts}
use Rattle.table_content.proofs.image_edits.put_near.Given as goal

abbrev pub invariant-loop-row : goal.invariant-loop-row
invariant-loop-row l =
    l.edits ++ near_puts l.key l.row-iterator.rest.items ≡ l.fn.edits ++ near_puts l.key l.fn.rows.items
