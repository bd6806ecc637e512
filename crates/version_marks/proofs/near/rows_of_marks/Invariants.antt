use Rattle.std.proofs.Common.{◌≡◌, ◌++◌}
use Rattle.version_marks.specs.Walks.{rows_of_marks}
use Rattle.version_marks.proofs.near.rows_of_marks.Given as goal

abbrev pub invariant-loop-mark : goal.invariant-loop-mark
invariant-loop-mark l = l.rows.items ++ rows_of_marks l.tree l.mark-iterator ≡ rows_of_marks l.tree l.marks.entries
