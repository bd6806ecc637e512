-- Places in an ascending list, and in one in an order, for the functions that add to one.
use Rattle.std.specs.Prelude.{ℕ, ◌+◌, Bool, false, List, [], ◌∷◌, Option, Some, None, nat_lt, ◌==◌, if◌then◌else◌}
use Rattle.std.specs.Ordering.{is_eq, match_ordering}
use Rattle.std.specs.declared.cmp.Ordering.{Ordering}

-- the place of the first item whose number is not below n
abbrev pub place_for : {T : Type 0} → (T → ℕ) → List T → ℕ → ℕ
place_for number [] n = 0
place_for number (y ∷ ys) n = if nat_lt (number y) n then 1 + place_for number ys n else 0

-- whether there is an item, of that number
abbrev pub is_at : {T : Type 0} → (T → ℕ) → Option T → ℕ → Bool
is_at number None n = false
is_at number (Some y) n = number y == n

-- the place of the first item that is not below x, in a list in an order
abbrev pub place_in : {T : Type 0} → (T → T → Ordering) → List T → T → ℕ
place_in cmp [] x = 0
place_in cmp (y ∷ ys) x = match_ordering (cmp x y) 0 0 (1 + place_in cmp ys x)

-- whether there is an item, equal to x
abbrev pub is_this : {T : Type 0} → (T → T → Ordering) → Option T → T → Bool
is_this cmp None x = false
is_this cmp (Some y) x = is_eq (cmp x y)
