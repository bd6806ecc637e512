-- The rows of sets: one for each set, under its key.
-- This project's own rule.
use Rattle.std.specs.Prelude.{ℕ, pos, ◌==◌, ◌<◌, ◌^◌, Bool, false, List, [], ◌∷◌, length, Option, option_map, unwrap_or}
use Rattle.std.specs.Str.{IsUtf8}
use Rattle.sqlite.specs.Order.{Row, column}
use Rattle.sqlite.specs.Values.{or_null}
use Rattle.sqlite.specs.declared.types.Value.TheVariants.{Null, Int, Text}
use Rattle.bug_record.specs.Severities.{rank}
use Rattle.bug_record.specs.Tags.{all_tags}
use Rattle.base_words.specs.Texts.{IfGiven}
use Rattle.bug_record.specs.declared.severity.Severity.{Severity}
use Rattle.bug_record.specs.declared.severity.Severity.TheVariants.{Critical}
use Rattle.table_forms.specs.Numbers.{number_in}
use Rattle.table_encodings.specs.Encodings.{severity_in, flag, flag_in, tags_in}
use Rattle.table_content.specs.declared.edit.SetFields.{SetFields}
use Rattle.table_schema.specs.Cells.{maybe_text, text_in}
use Rattle.table_schema.specs.LastRow.{last_row}

pub record SetRow : Type 0 where
  pub key : ℕ
  pub «package» : List ℕ
  pub severity : Severity
  pub closed : Bool
  pub forwarded : Option (List ℕ)
  pub owner : Option (List ℕ)
  -- the number of its tags
  pub tags : ℕ
  pub archived : Bool

abbrev pub set_cells : SetRow → Row
set_cells x =
    Int (pos x.key) ∷ Null ∷ Text x.«package» ∷ Int (pos (rank x.severity)) ∷ Int (pos (flag x.closed)) ∷ or_null Text x.forwarded ∷ or_null Text x.owner
    ∷ Int (pos x.tags) ∷ Int (pos (flag x.archived)) ∷ []

abbrev pub set_in : Row → SetRow
set_in r = record {
  key = number_in (column r 0);
  «package» = text_in (column r 2);
  severity = unwrap_or (severity_in (number_in (column r 3))) Critical;
  closed = unwrap_or (flag_in (number_in (column r 4))) false;
  forwarded = maybe_text (column r 5);
  owner = maybe_text (column r 6);
  tags = number_in (column r 7);
  archived = unwrap_or (flag_in (number_in (column r 8))) false;
}

-- its texts are UTF-8, and the number of its tags has no digit above those of all tags
pub record IsSetRow (x : SetRow) : Type 0 where
  pub «package» : IsUtf8 x.«package»
  pub forwarded : IfGiven IsUtf8 x.forwarded
  pub owner : IfGiven IsUtf8 x.owner
  pub tags : x.tags < 2 ^ length all_tags

-- the fields that a row says
abbrev pub fields_of_row : SetRow → SetFields
fields_of_row x = record {
  «package» = x.«package»;
  severity = x.severity;
  closed = x.closed;
  forwarded = x.forwarded;
  owner = x.owner;
  tags = tags_in x.tags;
  archived = x.archived;
}

-- the fields of a key's set, if it has a row
abbrev pub fields_in : List SetRow → ℕ → Option SetFields
fields_in xs k = option_map fields_of_row (last_row (λ x. x.key == k) xs)
