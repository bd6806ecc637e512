-- Sets as ascending lists: of numbers, or of items that each have a number.
use Rattle.std.specs.Prelude.{ℕ, suc, zero, ◌<◌, Bool, false, ◌||◌, ◌==◌, nat_lt, List, [], ◌∷◌, ◌++◌, if◌then◌else◌, ⊤}

-- whether n is in the list
abbrev pub has : List ℕ → ℕ → Bool
has [] n = false
has (x ∷ xs) n = (x == n) || has xs n

-- each element is above n
abbrev pub AllAbove : ℕ → List ℕ → Type 0
AllAbove n [] = ⊤
AllAbove n (x ∷ xs) = (n < x) × AllAbove n xs

-- each element is below those after it
abbrev pub IsAscending : List ℕ → Type 0
IsAscending [] = ⊤
IsAscending (x ∷ xs) = AllAbove x xs × IsAscending xs

-- what holds of each element
abbrev pub Each : {T : Type 0} → (T → Type 0) → List T → Type 0
Each P [] = ⊤
Each P (x ∷ xs) = P x × Each P xs

-- the ascending list with x, unless it has an item of that number
abbrev pub with_item : {T : Type 0} → (T → ℕ) → List T → T → List T
with_item number [] x = x ∷ []
with_item number (y ∷ ys) x =
    if nat_lt (number y) (number x) then y ∷ with_item number ys x
    else if number y == number x then y ∷ ys
    else x ∷ y ∷ ys

-- the numbers of a list, each once, ascending
abbrev pub number_set : List ℕ → List ℕ
number_set [] = []
number_set (n ∷ ns) = with_item (λ k. k) (number_set ns) n

-- an ascending list with all items of a list, each in its place, unless there is one of its number
abbrev pub with_items : {T : Type 0} → (T → ℕ) → List T → List T → List T
with_items number set [] = set
with_items number set (x ∷ xs) = with_items number (with_item number set x) xs

-- the numbers below n, ascending
unfoldable pub numbers_below : ℕ → List ℕ
numbers_below zero = []
numbers_below (suc n) = numbers_below n ++ (n ∷ [])
