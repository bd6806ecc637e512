use Rattle.table_sets.proofs.Imports.{text_row}
use Rattle.table_schema.proofs.Exports.{◌≡◌, ℕ, List, [], map, drop, AllByRecursion, IsUtf8, with_each, name_cmp}
use Rattle.table_sets.proofs.affects.names_of.Given as goal

abbrev pub invariant-loop-row : goal.invariant-loop-row
invariant-loop-row l = (ns : List (List ℕ)) → AllByRecursion IsUtf8 ns → l.rows ≡ map text_row ns → with_each name_cmp l.names (drop l.row-index ns) ≡ with_each name_cmp [] ns
