-- Outcomes that have places of their own, by place.
-- Nothing here speaks of a statement.
use Rattle.table_nodes.proofs.Imports.{IsToldOutcome}
use Rattle.table_schema.proofs.Exports.{◌≡◌, ℕ, ◌<◌, Bool, true, false, ◌&&◌, eqb, nat_lt, cond, if◌then◌else◌, filter, map, List, [], ◌∷◌, ◌++◌, append-nil, refl, sym, subst, ◌∙◌, arith, bytes_decides, AllByRecursion, IsPermutation, bytes_eq, nat_tests, IsPermutation-refl, IsPermutation-sym, IsPermutation-trans, IsPermutation-cons, IsPermutation-middle, IsPermutation-append_left, IsAscending, placed, ToldOutcome, OutcomeRow, IsOutcomeRow, told_of, placed_each, told}
use Rattle.table_schema.proofs.PlacedLemmas.{all_with}

abbrev place_in : ToldOutcome → ℕ
place_in t = t.place

-- ---- in some order

put_in : (ts : List ToldOutcome) (x : ToldOutcome) → IsPermutation (x ∷ ts) (placed place_in ts x)
put_in [] x = IsPermutation-refl (x ∷ [])
put_in (y ∷ ts) x =
    elim (nat_lt x.place y.place) as (λ b. IsPermutation (x ∷ y ∷ ts) (if b then x ∷ y ∷ ts else y ∷ placed place_in ts x)) [
      | true ↦ IsPermutation-refl (x ∷ y ∷ ts)
      | false ↦ IsPermutation-trans (x ∷ y ∷ ts) (y ∷ x ∷ ts) (y ∷ placed place_in ts x)
          (IsPermutation-sym _ _ (IsPermutation-middle (y ∷ []) x ts)) (IsPermutation-cons y (x ∷ ts) (placed place_in ts x) (put_in ts x))
    ]

put_all_in : (ts xs : List ToldOutcome) → IsPermutation (ts ++ xs) (placed_each ts xs)
put_all_in ts [] = subst (λ l. IsPermutation l ts) (sym (append-nil ts)) (IsPermutation-refl ts)
put_all_in ts (x ∷ xs) =
    IsPermutation-trans (ts ++ x ∷ xs) ((x ∷ ts) ++ xs) (placed_each (placed place_in ts x) xs) (IsPermutation-middle ts x xs)
    (IsPermutation-trans ((x ∷ ts) ++ xs) (placed place_in ts x ++ xs) (placed_each (placed place_in ts x) xs)
    (IsPermutation-append_left xs (x ∷ ts) (placed place_in ts x) (put_in ts x)) (put_all_in (placed place_in ts x) xs))

pub all_in : (xs : List ToldOutcome) → IsPermutation xs (placed_each [] xs)
all_in xs = put_all_in [] xs

-- ---- by place

abbrev pub same_place : OutcomeRow → OutcomeRow → Bool
same_place x y = bytes_eq x.message_id y.message_id && eqb x.place y.place

abbrev pub Rises : List ToldOutcome → Type 0
Rises ts = IsAscending (λ (a b : ToldOutcome). a.place < b.place) ts

abbrev ArePlacesApart : List ToldOutcome → Type 0
ArePlacesApart ts = IsAscending (λ (a b : ToldOutcome). eqb a.place b.place ≡ false) ts

above_all : (x y : ToldOutcome) (ts : List ToldOutcome) → x.place < y.place → AllByRecursion (λ (t : ToldOutcome). y.place < t.place) ts → AllByRecursion (λ (t : ToldOutcome). x.place < t.place) ts
above_all x y [] low up = tt
above_all x y (t ∷ ts) low up = (omega (arith, low, up.0), above_all x y ts low up.1)

put_rises : (ts : List ToldOutcome) (x : ToldOutcome) → Rises ts → AllByRecursion (λ (t : ToldOutcome). eqb x.place t.place ≡ false) ts → Rises (placed place_in ts x)
put_rises [] x up apart = (tt, tt)
put_rises (y ∷ ts) x up apart = go (nat_lt x.place y.place) refl (put_rises ts x up.1 apart.1)
  where
    go : (b : Bool) → nat_lt x.place y.place ≡ b → Rises (placed place_in ts x) → Rises (if b then x ∷ y ∷ ts else y ∷ placed place_in ts x)
    go true is more = let low : x.place < y.place = grind (arith, nat_tests, is) in ((low, above_all x y ts low up.0), up)
    go false is more =
        let low : y.place < x.place = grind (arith, nat_tests, is, apart.0) in
        (all_with (λ (t : ToldOutcome). y.place < t.place) place_in ts x low up.0, more)

-- each is at another place than those
abbrev AreOthers : List ToldOutcome → List ToldOutcome → Type 0
AreOthers ts xs = AllByRecursion (λ (x : ToldOutcome). AllByRecursion (λ (t : ToldOutcome). eqb x.place t.place ≡ false) ts) xs

other_too : (ts xs : List ToldOutcome) (x : ToldOutcome) → AreOthers ts xs → AllByRecursion (λ (y : ToldOutcome). eqb x.place y.place ≡ false) xs → AreOthers (placed place_in ts x) xs
other_too ts [] x others apart = tt
other_too ts (y ∷ xs) x others apart = (
  all_with (λ (t : ToldOutcome). eqb y.place t.place ≡ false) place_in ts x (grind (arith, nat_tests, apart.0)) others.0,
  other_too ts xs x others.1 apart.1,
)

put_all_rises : (ts xs : List ToldOutcome) → Rises ts → ArePlacesApart xs → AreOthers ts xs → Rises (placed_each ts xs)
put_all_rises ts [] up apart others = up
put_all_rises ts (x ∷ xs) up apart others =
    put_all_rises (placed place_in ts x) xs (put_rises ts x up others.0) apart.1 (other_too ts xs x others.1 apart.0)

none_there : (xs : List ToldOutcome) → AreOthers [] xs
none_there [] = tt
none_there (x ∷ xs) = (tt, none_there xs)

pub all_rise : (xs : List ToldOutcome) → ArePlacesApart xs → Rises (placed_each [] xs)
all_rise xs apart = put_all_rises [] xs tt apart (none_there xs)

-- ---- the rows of an id

both_of : (a b : Bool) → a ≡ true → (a && b) ≡ false → b ≡ false
both_of true b is none = none
both_of false b is none = absurd cc

module _ (id : List ℕ) where
  abbrev is_of : OutcomeRow → Bool
  is_of x = bytes_eq x.message_id id

  one_id : (x y : OutcomeRow) → is_of x ≡ true → is_of y ≡ true → same_place x y ≡ false → eqb x.place y.place ≡ false
  one_id x y p q apart =
      let one : x.message_id ≡ y.message_id = (bytes_decides x.message_id id).0 p ∙ sym ((bytes_decides y.message_id id).0 q) in
      both_of (bytes_eq x.message_id y.message_id) (eqb x.place y.place) ((bytes_decides x.message_id y.message_id).1 one) apart

  head_apart : (x : OutcomeRow) (ys : List OutcomeRow) → is_of x ≡ true → AllByRecursion (λ y. same_place x y ≡ false) ys
      → AllByRecursion (λ (t : ToldOutcome). eqb x.place t.place ≡ false) (told_of id ys)
  head_apart x [] is apart = tt
  head_apart x (y ∷ ys) is apart = go (is_of y) refl (head_apart x ys is apart.1)
    where
      go : (b : Bool) → is_of y ≡ b → AllByRecursion (λ (t : ToldOutcome). eqb x.place t.place ≡ false) (told_of id ys)
          → AllByRecursion (λ (t : ToldOutcome). eqb x.place t.place ≡ false) (map told (cond (is_of y) (y ∷ filter is_of ys) (filter is_of ys)))
      go true q more = rw q (one_id x y is q apart.0, more)
      go false q more = rw q more

  pub told_apart : (xs : List OutcomeRow) → IsAscending (λ a b. same_place a b ≡ false) xs → ArePlacesApart (told_of id xs)
  told_apart [] apart = tt
  told_apart (x ∷ xs) apart = go (is_of x) refl (told_apart xs apart.1)
    where
      go : (b : Bool) → is_of x ≡ b → ArePlacesApart (told_of id xs) → ArePlacesApart (map told (cond (is_of x) (x ∷ filter is_of xs) (filter is_of xs)))
      go true p more = rw p (head_apart x xs p apart.0, more)
      go false p more = rw p more

  told_good : (xs : List OutcomeRow) → AllByRecursion IsOutcomeRow xs → AllByRecursion IsToldOutcome (told_of id xs)
  told_good [] good = tt
  told_good (x ∷ xs) good = go (is_of x) (told_good xs good.1)
    where
      go : (b : Bool) → AllByRecursion IsToldOutcome (told_of id xs) → AllByRecursion IsToldOutcome (map told (cond b (x ∷ filter is_of xs) (filter is_of xs)))
      go true more = (record { node = good.0.node; is_bare = good.0.is_bare }, more)
      go false more = more

put_all_good : (ts xs : List ToldOutcome) → AllByRecursion IsToldOutcome ts → AllByRecursion IsToldOutcome xs → AllByRecursion IsToldOutcome (placed_each ts xs)
put_all_good ts [] good more = good
put_all_good ts (x ∷ xs) good more = put_all_good (placed place_in ts x) xs (all_with IsToldOutcome place_in ts x more.0 good) more.1

pub outcomes_good : (id : List ℕ) (xs : List OutcomeRow) → AllByRecursion IsOutcomeRow xs → AllByRecursion IsToldOutcome (placed_each [] (told_of id xs))
outcomes_good id xs good = put_all_good [] (told_of id xs) tt (told_good id xs good)
