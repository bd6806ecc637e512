-- The marks at a node as an answer has them.
use Rattle.std.specs.Prelude.{pos, [], ◌∷◌}
use Rattle.sqlite.specs.Order.{Row}
use Rattle.sqlite.specs.declared.types.Value.TheVariants.{Int}
use Rattle.table_encodings.specs.Encodings.{kind_number}
use Rattle.table_sets.specs.declared.node_marks.SetMark.{SetMark}

-- a row of a mark: the key of its set, and its kind
abbrev pub mark_row : SetMark → Row
mark_row m = Int (pos m.key) ∷ Int (pos (kind_number m.kind)) ∷ []
