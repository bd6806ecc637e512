-- The rows of blocks: one for each blocker of a set.
-- This project's own rule.
use Rattle.std.specs.Prelude.{ℕ, ℤ, pos, ◌==◌, filter, map, List, [], ◌∷◌, ⊤}
use Rattle.sqlite.specs.Edit.{id_in}
use Rattle.sqlite.specs.Order.{Row, column}
use Rattle.sqlite.specs.declared.types.Value.TheVariants.{Int}
use Rattle.table_forms.specs.Numbers.{number_in, with_numbers}

pub record BlockRow : Type 0 where
  pub id : ℤ
  pub key : ℕ
  pub blocker : ℕ

abbrev pub block_cells : BlockRow → Row
block_cells x = Int x.id ∷ Int (pos x.key) ∷ Int (pos x.blocker) ∷ []

abbrev pub block_in : Row → BlockRow
block_in r = record { id = id_in (column r 0); key = number_in (column r 1); blocker = number_in (column r 2) }

abbrev pub IsBlockRow : BlockRow → Type 0
IsBlockRow x = ⊤

-- the blockers of a set's key, as the rows have them
abbrev pub of_key : ℕ → List BlockRow → List ℕ
of_key k xs = map (λ (x : BlockRow). x.blocker) (filter (λ x. x.key == k) xs)

abbrev pub blockers_in : List BlockRow → ℕ → List ℕ
blockers_in xs k = with_numbers [] (of_key k xs)
