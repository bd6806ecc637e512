use Rattle.table_sets.proofs.Imports.{Mark, IsMark, no_marks, all_marked}
use Rattle.table_schema.proofs.Exports.{◌≡◌, List, map, drop, AllByRecursion}
use Rattle.table_sets.specs.Marked.{mark_row}
use Rattle.table_sets.proofs.marks.marks_of.Given as goal

abbrev pub invariant-loop-row : goal.invariant-loop-row
invariant-loop-row l = (ms : List Mark) → AllByRecursion IsMark ms → l.rows ≡ map mark_row ms → all_marked l.marks (drop l.row-index ms) ≡ all_marked no_marks ms
