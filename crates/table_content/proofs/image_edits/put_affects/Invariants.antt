use Rattle.std.proofs.Common.{◌≡◌, ◌++◌, drop}
use Rattle.table_content.specs.EditLists.{affected_puts}
use Rattle.table_content.proofs.image_edits.put_affects.Given as goal

abbrev pub invariant-loop-name : goal.invariant-loop-name
invariant-loop-name l =
    l.edits ++ affected_puts l.key (drop l.name-index l.names) ≡ l.fn.edits ++ affected_puts l.key l.names
