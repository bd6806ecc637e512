-- What a row that is added or left out makes of the bugs that the rows say.
-- Nothing here speaks of a statement.
use Rattle.table_schema.proofs.Imports.{◌≡◌, ℕ, ◌<◌, Bool, true, false, not, ◌==◌, eqb, cond, if◌then◌else◌, nat_lt, filter, map, List, [], ◌∷◌, refl, sym, ap, ◌∙◌, arith, AllByRecursion, eqb-true, nat_tests, IsAscending, put_at, placed, BugRow, member_of, members_in}
use Rattle.bug_record.specs.declared.bug.Member.{Member}
use Rattle.table_schema.proofs.OwnerLists.{turned}

-- functions are equal where their values are
same_at : {A : Type 0} (f g : ℕ → A) → ((k : ℕ) → f k ≡ g k) → f ≡ g
same_at f g h = λ i. λ k. h k i

abbrev pub bug_number : BugRow → ℕ
bug_number x = x.number

abbrev pub member_number : Member → ℕ
member_number m = m.number

-- the numbers rise
abbrev pub Rises : List BugRow → Type 0
Rises xs = IsAscending (λ a b. bug_number a < bug_number b) xs

-- ---- one more row

-- what is below all the others comes first
placed_first : (ms : List Member) (m : Member) → AllByRecursion (λ y. m.number < y.number) ms → placed member_number ms m ≡ m ∷ ms
placed_first [] m low = refl
placed_first (y ∷ ms) m low = let is : nat_lt m.number y.number ≡ true = grind (arith, nat_tests, low.0) in rw is refl

above_members : (n k : ℕ) (xs : List BugRow) → AllByRecursion (λ y. n < y.number) xs → AllByRecursion (λ m. n < m.number) (members_in xs k)
above_members n k [] low = tt
above_members n k (x ∷ xs) low = elim (x.key == k) as (λ b. AllByRecursion (λ m. n < m.number) (map member_of (cond b (x ∷ filter (λ y. y.key == k) xs) (filter (λ y. y.key == k) xs))))
    [ true ↦ (low.0, above_members n k xs low.1) | false ↦ above_members n k xs low.1 ]

below_all : (n m : ℕ) (xs : List BugRow) → n < m → AllByRecursion (λ y. m < y.number) xs → AllByRecursion (λ y. n < y.number) xs
below_all n m [] low all = tt
below_all n m (x ∷ xs) low all = (omega (arith, low, all.0), below_all n m xs low all.1)

-- a row of the key
members_more : (k : ℕ) (xs : List BugRow) (x : BugRow) → eqb x.key k ≡ true → Rises xs → members_in (placed bug_number xs x) k ≡ placed member_number (members_in xs k) (member_of x)
members_more k [] x is up = rw is refl
members_more k (y ∷ ys) x is up = go (nat_lt x.number y.number) refl (members_more k ys x is up.1)
  where
    first : nat_lt x.number y.number ≡ true → members_in (x ∷ y ∷ ys) k ≡ placed member_number (members_in (y ∷ ys) k) (member_of x)
    first low =
        let below : x.number < y.number = grind (arith, nat_tests, low) in
        rw is (sym (placed_first (members_in (y ∷ ys) k) (member_of x) (above_members x.number k (y ∷ ys) (below, below_all x.number y.number ys below up.0))))

    later : (a : Bool) → nat_lt x.number y.number ≡ false → eqb y.key k ≡ a → members_in (placed bug_number ys x) k ≡ placed member_number (members_in ys k) (member_of x)
        → members_in (y ∷ placed bug_number ys x) k ≡ placed member_number (members_in (y ∷ ys) k) (member_of x)
    later true high p h = rw (p, high) (ap (λ ms. member_of y ∷ ms) h)
    later false high p h = rw p h

    go : (low : Bool) → nat_lt x.number y.number ≡ low → members_in (placed bug_number ys x) k ≡ placed member_number (members_in ys k) (member_of x)
        → members_in (if low then x ∷ y ∷ ys else y ∷ placed bug_number ys x) k ≡ placed member_number (members_in (y ∷ ys) k) (member_of x)
    go true low h = first low
    go false low h = later (eqb y.key k) low refl h

-- a row of another key
members_same : (k : ℕ) (xs : List BugRow) (x : BugRow) → eqb x.key k ≡ false → members_in (placed bug_number xs x) k ≡ members_in xs k
members_same k [] x is = rw is refl
members_same k (y ∷ ys) x is = go (nat_lt x.number y.number) (members_same k ys x is)
  where
    later : (a : Bool) → eqb y.key k ≡ a → members_in (placed bug_number ys x) k ≡ members_in ys k → members_in (y ∷ placed bug_number ys x) k ≡ members_in (y ∷ ys) k
    later true p h = rw p (ap (λ ms. member_of y ∷ ms) h)
    later false p h = rw p h

    go : (low : Bool) → members_in (placed bug_number ys x) k ≡ members_in ys k → members_in (if low then x ∷ y ∷ ys else y ∷ placed bug_number ys x) k ≡ members_in (y ∷ ys) k
    go true h = rw is refl
    go false h = later (eqb y.key k) refl h

pub member_added : (xs : List BugRow) (x : BugRow) → Rises xs → members_in (placed bug_number xs x) ≡ put_at x.key (placed member_number (members_in xs x.key) (member_of x)) (members_in xs)
member_added xs x up = same_at _ _ (λ k. go k (x.key == k) refl)
  where
    go : (k : ℕ) (b : Bool) → (x.key == k) ≡ b → members_in (placed bug_number xs x) k ≡ (if b then placed member_number (members_in xs x.key) (member_of x) else members_in xs k)
    go k true is = members_more k xs x is up ∙ ap (λ j. placed member_number (members_in xs j) (member_of x)) (sym (eqb-true x.key k is))
    go k false is = members_same k xs x is

-- ---- a number's rows left out

members_less : (n k : ℕ) (xs : List BugRow) → members_in (filter (λ x. not (x.number == n)) xs) k ≡ filter (λ (m : Member). not (n == m.number)) (members_in xs k)
members_less n k [] = refl
members_less n k (x ∷ xs) = go (x.number == n) (x.key == k) refl refl (members_less n k xs)
  where
    go : (a b : Bool) → (x.number == n) ≡ a → (x.key == k) ≡ b → members_in (filter (λ x. not (x.number == n)) xs) k ≡ filter (λ (m : Member). not (n == m.number)) (members_in xs k)
        → members_in (filter (λ y. not (y.number == n)) (x ∷ xs)) k ≡ filter (λ (m : Member). not (n == m.number)) (members_in (x ∷ xs) k)
    go true true p q h = rw (p, q, turned n x.number ∙ p) h
    go true false p q h = rw (p, q) h
    go false true p q h = rw (p, q, turned n x.number ∙ p) (ap (λ ms. member_of x ∷ ms) h)
    go false false p q h = rw (p, q) h

pub member_dropped : (n : ℕ) (xs : List BugRow) → members_in (filter (λ x. not (x.number == n)) xs) ≡ (λ k. filter (λ (m : Member). not (n == m.number)) (members_in xs k))
member_dropped n xs = same_at _ _ (λ k. members_less n k xs)

-- what holds of the bugs of all rows holds of those of a key
pub all_members : (P : Member → Type 0) (k : ℕ) (xs : List BugRow) → AllByRecursion (λ x. P (member_of x)) xs → AllByRecursion P (members_in xs k)
all_members P k [] all = tt
all_members P k (x ∷ xs) all = elim (x.key == k) as (λ b. AllByRecursion P (map member_of (cond b (x ∷ filter (λ y. y.key == k) xs) (filter (λ y. y.key == k) xs))))
    [ true ↦ (all.0, all_members P k xs all.1) | false ↦ all_members P k xs all.1 ]
