-- A list of numbers has one ascending order, and putting them in one by one gives it. Nothing here knows SQL.
use Rattle.std.proofs.Common.{◌≡◌, inl, inr, ℕ, ◌+◌, ◌≤◌, ◌<◌, Bool, true, false, ◌==◌, eqb, if◌then◌else◌, nat_lt, List, [], ◌∷◌, suc, refl, sym, ap, subst, ◌∙◌, arith}
use Rattle.std.specs.List.{sum_by}
use Rattle.std.specs.List.Sorted.{IsPermutation}
use Rattle.std.proofs.lemmas.List.Sorted.{sum_by-IsPermutation}
use Rattle.std.proofs.lemmas.List.Sums.{sum_by-cons}
use Rattle.std.proofs.lemmas.Bool.{cases_Bool, eq-eqb, ne_eqb, ltb-true}
use Rattle.std.proofs.lemmas.Bool.Decides.{nat_tests}
use Rattle.std.specs.List.{AllByRecursion}
use Rattle.table_forms.specs.Numbers.{with_number, with_numbers}

-- each number is at most the next
abbrev pub IsUp : List ℕ → Type 0
IsUp [] = Unit {0}
IsUp (x ∷ xs) = AllByRecursion (λ y. x ≤ y) xs × IsUp xs

-- 1 where the two are one number
abbrev one_of : ℕ → ℕ → ℕ
one_of x n = if x == n then 1 else 0

abbrev pub count : ℕ → List ℕ → ℕ
count n [] = 0
count n (x ∷ xs) = one_of x n + count n xs

count_is : (n : ℕ) (xs : List ℕ) → sum_by (λ x. one_of x n) xs ≡ count n xs
count_is n [] = refl
count_is n (x ∷ xs) = sum_by-cons (λ y. one_of y n) x xs ∙ ap (λ c. one_of x n + c) (count_is n xs)

count_put : (n : ℕ) (xs : List ℕ) (x : ℕ) → count n (with_number xs x) ≡ count n (x ∷ xs)
count_put n [] x = refl
count_put n (y ∷ xs) x = go (nat_lt x y) (count_put n xs x)
  where
    go : (b : Bool) → count n (with_number xs x) ≡ count n (x ∷ xs) → count n (if b then x ∷ y ∷ xs else y ∷ with_number xs x) ≡ count n (x ∷ y ∷ xs)
    go true h = refl
    go false h = ap (λ c. one_of y n + c) h ∙ omega arith

count_puts : (n : ℕ) (ys xs : List ℕ) → count n (with_numbers ys xs) ≡ count n xs + count n ys
count_puts n ys [] = omega arith
count_puts n ys (x ∷ xs) = count_puts n (with_number ys x) xs ∙ ap (λ c. count n xs + c) (count_put n ys x) ∙ omega arith

all_put : (P : ℕ → Type 0) (xs : List ℕ) (x : ℕ) → P x → AllByRecursion P xs → AllByRecursion P (with_number xs x)
all_put P [] x p all = (p, tt)
all_put P (y ∷ xs) x p all = go (nat_lt x y) (all_put P xs x p all.1)
  where
    go : (b : Bool) → AllByRecursion P (with_number xs x) → AllByRecursion P (if b then x ∷ y ∷ xs else y ∷ with_number xs x)
    go true h = (p, all)
    go false h = (all.0, h)

pub all_least : (a b : ℕ) (xs : List ℕ) → a ≤ b → AllByRecursion (λ y. b ≤ y) xs → AllByRecursion (λ y. a ≤ y) xs
all_least a b [] h all = tt
all_least a b (x ∷ xs) h all = (omega (arith, h, all.0), all_least a b xs h all.1)

up_put : (xs : List ℕ) (x : ℕ) → IsUp xs → IsUp (with_number xs x)
up_put [] x up = (tt, tt)
up_put (y ∷ xs) x up = go (nat_lt x y) refl (up_put xs x up.1)
  where
    go : (b : Bool) → nat_lt x y ≡ b → IsUp (with_number xs x) → IsUp (if b then x ∷ y ∷ xs else y ∷ with_number xs x)
    go true is h = let low : x ≤ y = grind (arith, nat_tests, is) in ((low, all_least x y xs low up.0), up)
    go false is h = let low : y ≤ x = grind (arith, nat_tests, is) in (all_put (λ z. y ≤ z) xs x low up.0, h)

pub up_puts : (ys xs : List ℕ) → IsUp ys → IsUp (with_numbers ys xs)
up_puts ys [] up = up
up_puts ys (x ∷ xs) up = up_puts (with_number ys x) xs (up_put ys x up)

-- what is counted is not below the first
none_below : (n x : ℕ) (xs : List ℕ) → n < x → AllByRecursion (λ y. x ≤ y) xs → count n xs ≡ 0
none_below n x [] low all = refl
none_below n x (y ∷ xs) low all =
    let apart : eqb y n ≡ false = ne_eqb y n (λ same. omega (arith, same, low, all.0)) in
    ap (λ b. (if b then 1 else 0) + count n xs) apart ∙ omega (arith, none_below n x xs low all.1)

counted : (n : ℕ) (xs : List ℕ) → count n (n ∷ xs) ≡ suc (count n xs)
counted n xs = rw (eq-eqb n n refl) (omega arith)

first_low : (x y : ℕ) (xs ys : List ℕ) → IsUp (y ∷ ys) → ((n : ℕ) → count n (x ∷ xs) ≡ count n (y ∷ ys)) → y ≤ x
first_low x y xs ys up same = elim (cases_Bool (nat_lt x y)) [
  | inl low ↦ let below : x < y = ltb-true x y low in
      absurd (let none : count x (y ∷ ys) ≡ 0 = none_below x y (y ∷ ys) below (omega arith, up.0) in omega (arith, none, same x, counted x xs))
  | inr high ↦ grind (arith, nat_tests, high)
]

less : (a b c : ℕ) → a + b ≡ a + c → b ≡ c
less a b c h = omega (arith, h)

same_order : (xs ys : List ℕ) → IsUp xs → IsUp ys → ((n : ℕ) → count n xs ≡ count n ys) → xs ≡ ys
same_order [] [] p q same = refl
same_order [] (y ∷ ys) p q same = absurd (omega (arith, same y, counted y ys))
same_order (x ∷ xs) [] p q same = absurd (omega (arith, same x, counted x xs))
same_order (x ∷ xs) (y ∷ ys) p q same =
    let first : x ≡ y = omega (arith, first_low x y xs ys q same, first_low y x ys xs p (λ n. sym (same n))) in
    let tails = same_order xs ys p.1 q.1 (λ n. less (one_of x n) _ _ (subst (λ z. one_of x n + count n xs ≡ one_of z n + count n ys) (sym first) (same n))) in
    ap (λ z. z ∷ xs) first ∙ ap (λ zs. y ∷ zs) tails

-- an ascending order of numbers is the one that puts them in one by one
pub one_order : (xs ns : List ℕ) → IsPermutation xs ns → IsUp ns → ns ≡ with_numbers [] xs
one_order xs ns same up = same_order ns (with_numbers [] xs) up (up_puts [] xs tt) (λ n. sym (count_is n ns) ∙ sum_by-IsPermutation (λ x. one_of x n) xs ns same ∙ count_is n xs ∙ sym (count_puts n [] xs ∙ omega arith))
