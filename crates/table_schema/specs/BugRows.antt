-- The rows of bugs: one for each bug, under its number.
-- This project's own rule.
use Rattle.std.specs.Prelude.{ℕ, pos, ◌==◌, List, [], ◌∷◌, map, filter, Option, option_map}
use Rattle.std.specs.Str.{IsUtf8}
use Rattle.sqlite.specs.Order.{Row, column}
use Rattle.sqlite.specs.declared.types.Value.TheVariants.{Null, Int, Text}
use Rattle.bug_record.specs.declared.bug.Member.{Member}
use Rattle.table_forms.specs.Numbers.{number_in}
use Rattle.table_schema.specs.Cells.{text_in}
use Rattle.table_schema.specs.LastRow.{last_row}

pub record BugRow : Type 0 where
  pub number : ℕ
  pub key : ℕ
  pub title : List ℕ
  pub submitter : List ℕ

abbrev pub bug_cells : BugRow → Row
bug_cells x = Int (pos x.number) ∷ Null ∷ Int (pos x.key) ∷ Text x.title ∷ Text x.submitter ∷ []

abbrev pub bug_in : Row → BugRow
bug_in r = record { number = number_in (column r 0); key = number_in (column r 2); title = text_in (column r 3); submitter = text_in (column r 4) }

-- its texts are UTF-8
pub record IsBugRow (x : BugRow) : Type 0 where
  pub title : IsUtf8 x.title
  pub submitter : IsUtf8 x.submitter

-- the key of a bug's set, if it has a row
abbrev pub key_in : List BugRow → ℕ → Option ℕ
key_in xs n = option_map (λ (x : BugRow). x.key) (last_row (λ x. x.number == n) xs)

abbrev pub member_of : BugRow → Member
member_of x = record { number = x.number; title = x.title; submitter = x.submitter }

-- the bugs of a key's set, in the order of the rows
abbrev pub members_in : List BugRow → ℕ → List Member
members_in xs k = map member_of (filter (λ x. x.key == k) xs)
