use Rattle.std.proofs.Common.{◌≡◌, ◌++◌, drop}
use Rattle.table_content.specs.EditLists.{mark_puts}
use Rattle.table_content.proofs.image_edits.put_marks.Given as goal

abbrev pub invariant-loop-node : goal.invariant-loop-node
invariant-loop-node l =
    l.edits ++ mark_puts l.key l.kind (drop l.node-index l.nodes) ≡ l.fn.edits ++ mark_puts l.key l.kind l.nodes
