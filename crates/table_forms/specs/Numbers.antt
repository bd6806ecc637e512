-- Cells and rows of numbers, and numbers in order.
use Rattle.std.specs.Prelude.{◌≡◌, ℕ, ◌+◌, max, pos, negsuc, nat_lt, if◌then◌else◌, List, [], ◌∷◌, Option}
use Rattle.std.specs.Option.{option_map_or}
use Rattle.sqlite.specs.declared.types.Value.{Value}
use Rattle.sqlite.specs.declared.types.Value.TheVariants.{Null, Int, Real, Text, Blob}
use Rattle.sqlite.specs.Order.{Row}

-- a row of one number, as an answer has it
abbrev pub number_row : ℕ → Row
number_row n = Int (pos n) ∷ []

-- the number in a cell; 0 where there is none
abbrev pub number_in : Value → ℕ
number_in (Int (pos n)) = n
number_in (Int (negsuc n)) = 0
number_in Null = 0
number_in (Real x) = 0
number_in (Text t) = 0
number_in (Blob b) = 0

-- an ascending list with one more number, in its place
abbrev pub with_number : List ℕ → ℕ → List ℕ
with_number [] x = x ∷ []
with_number (y ∷ ys) x = if nat_lt x y then x ∷ y ∷ ys else y ∷ with_number ys x

abbrev pub with_numbers : List ℕ → List ℕ → List ℕ
with_numbers ys [] = ys
with_numbers ys (x ∷ xs) = with_numbers (with_number ys x) xs

-- the least number that is above each of these
abbrev pub next_above : List ℕ → ℕ
next_above [] = 0
next_above (n ∷ ns) = max (n + 1) (next_above ns)

-- They are the row of the greatest of the numbers, or none where there is none.
pub record AreGreatest (ns : List ℕ) (rows : List Row) : Type 0 where
  pub greatest : Option ℕ
  pub are : rows ≡ option_map_or (λ n. number_row n ∷ []) greatest []
  pub next : next_above ns ≡ option_map_or (λ n. n + 1) greatest 0
