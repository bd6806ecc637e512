use Rattle.table_sets.proofs.Imports.{mark_row, SetMark}
use Rattle.table_schema.proofs.Exports.{◌≡◌, List, map, take}
use Rattle.table_sets.proofs.node_marks.marks_in.Given as goal

abbrev pub invariant-loop-row : goal.invariant-loop-row
invariant-loop-row l = (ms : List SetMark) → l.rows ≡ map mark_row ms → l.marks.items ≡ take l.row-index ms
