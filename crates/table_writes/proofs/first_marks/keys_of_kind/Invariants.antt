use Rattle.std.proofs.Common.{◌≡◌, ◌++◌, drop}
use Rattle.table_writes.specs.Marked.{keys_of_kind}
use Rattle.table_writes.proofs.first_marks.keys_of_kind.Given as goal

abbrev pub invariant-loop-mark : goal.invariant-loop-mark
invariant-loop-mark l = l.keys.items ++ keys_of_kind l.kind (drop l.mark-index l.marks) ≡ keys_of_kind l.kind l.marks
