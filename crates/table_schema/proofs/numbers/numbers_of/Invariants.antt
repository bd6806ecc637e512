use Rattle.table_schema.proofs.Imports.{◌≡◌, ℕ, List, map, take, number_row}
use Rattle.table_schema.proofs.numbers.numbers_of.Given as goal

abbrev pub invariant-loop-row : goal.invariant-loop-row
invariant-loop-row l = (ns : List ℕ) → l.rows ≡ map number_row ns → l.numbers ≡ take l.row-index ns
