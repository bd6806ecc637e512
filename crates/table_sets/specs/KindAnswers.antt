-- The kind of a nearest mark as an answer has it.
use Rattle.std.specs.Prelude.{pos, List, [], ◌∷◌, Option}
use Rattle.std.specs.Option.{option_map_or}
use Rattle.sqlite.specs.Order.{Row}
use Rattle.sqlite.specs.declared.types.Value.TheVariants.{Int}
use Rattle.version_nodes.specs.declared.statuses.MarkKind.{MarkKind}
use Rattle.table_encodings.specs.Encodings.{kind_number}

abbrev pub kind_row : MarkKind → Row
kind_row kind = Int (pos (kind_number kind)) ∷ []

-- the only row, if there is one
abbrev pub kind_rows : Option MarkKind → List Row
kind_rows kind = option_map_or (λ k. kind_row k ∷ []) kind []
