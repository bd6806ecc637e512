-- The row of a set's fields in an answer, and what such rows say.
use Rattle.std.specs.Prelude.{◌≡◌, ℕ, pos, List, [], ◌∷◌, Option, option_map}
use Rattle.std.specs.Option.{option_map_or}
use Rattle.sqlite.specs.Order.{Row}
use Rattle.sqlite.specs.Values.{or_null}
use Rattle.sqlite.specs.declared.types.Value.TheVariants.{Int, Text}
use Rattle.bug_record.specs.Severities.{rank}
use Rattle.base_words.specs.Texts.{IfGiven}
use Rattle.table_content.specs.Content.{Content}
use Rattle.table_encodings.specs.Encodings.{flag}
use Rattle.table_schema.specs.SetRows.{SetRow, IsSetRow, fields_of_row}

-- a row of an answer: all but the key
abbrev pub field_row : SetRow → Row
field_row x =
    Text x.«package» ∷ Int (pos (rank x.severity)) ∷ Int (pos (flag x.closed)) ∷ or_null Text x.forwarded ∷ or_null Text x.owner ∷ Int (pos x.tags)
    ∷ Int (pos (flag x.archived)) ∷ []

abbrev pub field_rows : Option SetRow → List Row
field_rows row = option_map_or (λ x. field_row x ∷ []) row []

-- the rows of an answer are those of the key's fields
pub record AreFieldsOf (k : ℕ) (c : Content) (rows : List Row) : Type 0 where
  pub row : Option SetRow
  pub are : rows ≡ field_rows row
  pub says : c.fields k ≡ option_map fields_of_row row
  pub good : IfGiven IsSetRow row
