-- The rows of outcome_numbers: one for each number of an accepted line of a message that has an id.
-- This project's own rule.
use Rattle.std.specs.Prelude.{ℕ, ℤ, pos, ◌==◌, ◌&&◌, filter, map, List, [], ◌∷◌}
use Rattle.std.specs.Str.{bytes_eq, IsUtf8}
use Rattle.sqlite.specs.Edit.{id_in}
use Rattle.sqlite.specs.Order.{Row, column}
use Rattle.sqlite.specs.declared.types.Value.TheVariants.{Int, Text}
use Rattle.table_forms.specs.Numbers.{number_in, with_numbers}
use Rattle.table_schema.specs.Cells.{text_in}

pub record NumberRow : Type 0 where
  pub id : ℤ
  pub message_id : List ℕ
  pub place : ℕ
  pub number : ℕ

abbrev pub number_cells : NumberRow → Row
number_cells x = Int x.id ∷ Text x.message_id ∷ Int (pos x.place) ∷ Int (pos x.number) ∷ []

abbrev pub number_row_in : Row → NumberRow
number_row_in r = record {
  id = id_in (column r 0);
  message_id = text_in (column r 1);
  place = number_in (column r 2);
  number = number_in (column r 3);
}

-- its text is UTF-8
abbrev pub IsNumberRow : NumberRow → Type 0
IsNumberRow x = IsUtf8 x.message_id

-- the numbers of an id and a place, as the rows have them
abbrev pub numbers_at : List ℕ → ℕ → List NumberRow → List ℕ
numbers_at id place xs = map (λ (x : NumberRow). x.number) (filter (λ x. bytes_eq x.message_id id && (x.place == place)) xs)

-- the same in order
abbrev pub outcome_numbers_in : List NumberRow → List ℕ → ℕ → List ℕ
outcome_numbers_in xs id place = with_numbers [] (numbers_at id place xs)
