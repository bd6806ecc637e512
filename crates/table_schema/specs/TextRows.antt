-- The rows of a table that gives texts to sets, such as affects: one for each text of a set.
-- This project's own rule.
use Rattle.std.specs.Prelude.{ℕ, ℤ, pos, ◌==◌, filter, map, List, [], ◌∷◌}
use Rattle.std.specs.Str.{IsUtf8}
use Rattle.sqlite.specs.Edit.{id_in}
use Rattle.sqlite.specs.Order.{Row, column}
use Rattle.sqlite.specs.declared.types.Value.TheVariants.{Int, Text}
use Rattle.bug_record.specs.Ordered.{with_each}
use Rattle.bug_record.specs.PackageSets.{name_cmp}
use Rattle.table_forms.specs.Numbers.{number_in}
use Rattle.table_schema.specs.Cells.{text_in}

pub record TextRow : Type 0 where
  pub id : ℤ
  pub key : ℕ
  pub text : List ℕ

abbrev pub text_cells : TextRow → Row
text_cells x = Int x.id ∷ Int (pos x.key) ∷ Text x.text ∷ []

abbrev pub text_row_in : Row → TextRow
text_row_in r = record { id = id_in (column r 0); key = number_in (column r 1); text = text_in (column r 2) }

-- its text is UTF-8
abbrev pub IsTextRow : TextRow → Type 0
IsTextRow x = IsUtf8 x.text

-- the texts of a set's key, as the rows have them
abbrev pub texts_of : ℕ → List TextRow → List (List ℕ)
texts_of k xs = map (λ (x : TextRow). x.text) (filter (λ x. x.key == k) xs)

-- the same in the order of their bytes
abbrev pub texts_in : List TextRow → ℕ → List (List ℕ)
texts_in xs k = with_each name_cmp [] (texts_of k xs)
