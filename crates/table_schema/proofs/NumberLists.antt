-- The rows of blocks give blockers to keys, and those of outcome_numbers numbers to places of ids.
-- Nothing here speaks of a statement.
use Rattle.table_schema.proofs.Imports.{◌≡◌, ℕ, Bool, true, false, ◌&&◌, ◌||◌, ◌==◌, eqb, if◌then◌else◌, nat_lt, List, [], ◌∷◌, ◌++◌, refl, ap, ◌∙◌, bytes_decides, bytes_eq, eqb-true, and_parts, has, placed, with_number, with_numbers, BlockRow, NumberRow}
use Rattle.table_schema.proofs.OwnerLists.{OwnerRows}

-- a number comes into its place
placed_is : (xs : List ℕ) (x : ℕ) → with_number xs x ≡ placed (λ n. n) xs x
placed_is [] x = refl
placed_is (y ∷ xs) x = ap (λ ys. if nat_lt x y then x ∷ y ∷ xs else y ∷ ys) (placed_is xs x)

with_last : (ys xs : List ℕ) (x : ℕ) → with_numbers ys (xs ++ x ∷ []) ≡ with_number (with_numbers ys xs) x
with_last ys [] x = refl
with_last ys (y ∷ xs) x = with_last (with_number ys y) xs x

pub or_swap : (a b c : Bool) → (a || (b || c)) ≡ (b || (a || c))
or_swap true true c = refl
or_swap true false c = refl
or_swap false true c = refl
or_swap false false c = refl

pub or_assoc : (a b c : Bool) → (a || (b || c)) ≡ ((a || b) || c)
or_assoc true b c = refl
or_assoc false b c = refl

pub or_false : (b : Bool) → (b || false) ≡ b
or_false true = refl
or_false false = refl

in_list : (x : ℕ) (ys : List ℕ) (y : ℕ) → has (with_number ys y) x ≡ (eqb y x || has ys x)
in_list x [] y = refl
in_list x (z ∷ ys) y =
    elim (nat_lt y z) as (λ b. has (if b then y ∷ z ∷ ys else z ∷ with_number ys y) x ≡ (eqb y x || (eqb z x || has ys x)))
    [ true ↦ refl | false ↦ ap (λ b. eqb z x || b) (in_list x ys y) ∙ or_swap (eqb z x) (eqb y x) (has ys x) ]

in_lists : (x : ℕ) (ys zs : List ℕ) → has (with_numbers ys zs) x ≡ (has zs x || has ys x)
in_lists x ys [] = refl
in_lists x ys (z ∷ zs) = in_lists x (with_number ys z) zs ∙ ap (λ b. has zs x || b) (in_list x ys z) ∙ or_swap (has zs x) (eqb z x) (has ys x) ∙ or_assoc (eqb z x) (has zs x) (has ys x)

-- ---- as items of owners

pub number_last : (ns : List ℕ) (n : ℕ) → with_numbers [] (ns ++ n ∷ []) ≡ placed (λ k. k) (with_numbers [] ns) n
number_last ns n = with_last [] ns n ∙ placed_is (with_numbers [] ns) n

pub has_numbers : (ns : List ℕ) (n : ℕ) → has (with_numbers [] ns) n ≡ has ns n
has_numbers ns n = in_lists n [] ns ∙ or_false (has ns n)

abbrev pub block_rows : OwnerRows BlockRow ℕ ℕ
block_rows = record {
  owner = λ x. x.key;
  item = λ x. x.blocker;
  one_owner = λ a b. a == b;
  owner_is = eqb-true;
  one_item = λ a b. a == b;
  all = with_numbers [];
  add = placed (λ n. n);
  has = has;
  none = refl;
  empty = λ i. refl;
  last = number_last;
  first = λ i is j. refl;
  there = has_numbers;
}

abbrev pub one_place : List ℕ × ℕ → List ℕ × ℕ → Bool
one_place a b = bytes_eq a.0 b.0 && (a.1 == b.1)

pub place_is : (a b : List ℕ × ℕ) → one_place a b ≡ true → a ≡ b
place_is a b h =
    let parts = and_parts (bytes_eq a.0 b.0) (a.1 == b.1) h in
    let id = (bytes_decides a.0 b.0).0 parts.0 in
    let place = eqb-true a.1 b.1 parts.1 in
    λ i. (id i, place i)

abbrev pub number_rows : OwnerRows NumberRow (List ℕ × ℕ) ℕ
number_rows = record {
  owner = λ x. (x.message_id, x.place);
  item = λ x. x.number;
  one_owner = one_place;
  owner_is = place_is;
  one_item = λ a b. a == b;
  all = with_numbers [];
  add = placed (λ n. n);
  has = has;
  none = refl;
  empty = λ i. refl;
  last = number_last;
  first = λ i is j. refl;
  there = has_numbers;
}
