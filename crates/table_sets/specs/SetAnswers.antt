-- The sets of a package as an answer has them.
use Rattle.std.specs.Prelude.{pos, [], ◌∷◌}
use Rattle.sqlite.specs.Order.{Row}
use Rattle.sqlite.specs.declared.types.Value.TheVariants.{Int}
use Rattle.bug_record.specs.Severities.{rank}
use Rattle.table_encodings.specs.Encodings.{flag}
use Rattle.table_sets.specs.declared.listed.ListedSet.{ListedSet}

-- a row of a set: its key, severity and whether it is closed
abbrev pub listed_row : ListedSet → Row
listed_row s = Int (pos s.key) ∷ Int (pos (rank s.fields.severity)) ∷ Int (pos (flag s.fields.closed)) ∷ []
