use Rattle.table_sets.proofs.Imports.{listed_row, ListedSet}
use Rattle.table_schema.proofs.Exports.{◌≡◌, List, map, take}
use Rattle.table_sets.proofs.listed.sets_in.Given as goal

abbrev pub invariant-loop-row : goal.invariant-loop-row
invariant-loop-row l = (ss : List ListedSet) → l.rows ≡ map listed_row ss → l.sets.items ≡ take l.row-index ss
