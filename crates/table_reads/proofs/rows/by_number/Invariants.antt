use Rattle.std.proofs.Common.{◌≡◌, ◌++◌}
use Rattle.std.specs.Map.{values_of}
use Rattle.table_reads.proofs.rows.by_number.Given as goal

abbrev pub invariant-loop-row : goal.invariant-loop-row
invariant-loop-row l = l.listed.items ++ values_of l.row-iterator ≡ values_of l.fn.rows.entries
