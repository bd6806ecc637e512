-- The last row that passes a test, where a row is added or left out, and where one alone passes.
-- Nothing here speaks of a statement.
use Rattle.table_schema.proofs.Imports.{◌≡◌, ℕ, ◌<◌, Bool, true, false, not, ◌&&◌, ◌==◌, if◌then◌else◌, nat_lt, filter, List, [], ◌∷◌, ◌++◌, Option, Some, None, option_map, eqb, refl, sym, ap, subst, ◌∙◌, arith, true≢false, AllByRecursion, option_map_or, eqb-true, and_parts, false_from_ne_true, nat_tests, IsAscending, placed, or_else, last_row}
use Rattle.sqlite_keyed.proofs.ListLemmas.{ascending_weaker}
use Rattle.base_words.specs.Texts.{IfGiven}
use Rattle.table_schema.proofs.OwnerLists.{turned}

or_none : {A : Type 0} (o : Option A) → or_else o None ≡ o
or_none (Some x) = refl
or_none None = refl

neither : {A : Type 0} (a b : Option A) → or_else a b ≡ None → (a ≡ None) × (b ≡ None)
neither (Some x) b h = absurd cc
neither None b h = (refl, h)

off : {A : Type 0} (b : Bool) (x : A) → (if b then Some x else None) ≡ None → b ≡ false
off true x h = absurd cc
off false x h = refl

module _ {T : Type 0} (p : T → Bool) where
  abbrev own : T → Option T
  own x = if p x then Some x else None

  -- ---- one more row

  pub last_more : (xs : List T) (x : T) → last_row p (xs ++ x ∷ []) ≡ (if p x then Some x else last_row p xs)
  last_more [] x = refl
  last_more (y ∷ xs) x =
      ap (λ o. or_else o (own y)) (last_more xs x)
      ∙ elim (p x) as (λ b. or_else (if b then Some x else last_row p xs) (own y) ≡ (if b then Some x else or_else (last_row p xs) (own y))) [ true ↦ refl | false ↦ refl ]

  none_last : (xs : List T) → AllByRecursion (λ x. p x ≡ false) xs → last_row p xs ≡ None
  none_last [] h = refl
  none_last (x ∷ xs) h = rw (none_last xs h.1, h.0) refl

  placed_on : (number : T → ℕ) (xs : List T) (x : T) → p x ≡ true → AllByRecursion (λ y. p y ≡ false) xs → last_row p (placed number xs x) ≡ Some x
  placed_on number [] x on apart = rw on refl
  placed_on number (y ∷ ys) x on apart =
      elim (nat_lt (number x) (number y)) as (λ b. last_row p (if b then x ∷ y ∷ ys else y ∷ placed number ys x) ≡ Some x)
      [ true ↦ rw (none_last (y ∷ ys) apart, on) refl | false ↦ rw (placed_on number ys x on apart.1) refl ]

  placed_off : (number : T → ℕ) (xs : List T) (x : T) → p x ≡ false → last_row p (placed number xs x) ≡ last_row p xs
  placed_off number [] x is_off = rw is_off refl
  placed_off number (y ∷ ys) x is_off =
      elim (nat_lt (number x) (number y)) as (λ b. last_row p (if b then x ∷ y ∷ ys else y ∷ placed number ys x) ≡ last_row p (y ∷ ys))
      [ true ↦ rw is_off (or_none (last_row p (y ∷ ys))) | false ↦ ap (λ o. or_else o (own y)) (placed_off number ys x is_off) ]

  -- a row comes into its place, where no other passes beside it
  pub last_placed : (number : T → ℕ) (xs : List T) (x : T) → (p x ≡ true → AllByRecursion (λ y. p y ≡ false) xs) → last_row p (placed number xs x) ≡ (if p x then Some x else last_row p xs)
  last_placed number xs x apart = go (p x) refl
    where
      go : (b : Bool) → p x ≡ b → last_row p (placed number xs x) ≡ (if b then Some x else last_row p xs)
      go true is = placed_on number xs x is (apart is)
      go false is = placed_off number xs x is

  -- ---- rows are left out

  -- those that pass are all left out, or none of them is
  pub last_left : (is_hit : T → Bool) (gone : Bool) → ((x : T) → p x ≡ true → is_hit x ≡ gone) → (xs : List T) → last_row p (filter (λ x. not (is_hit x)) xs) ≡ (if gone then None else last_row p xs)
  last_left is_hit gone same [] = elim gone as (λ b. ◌≡◌ {A = Option T} None (if b then None else None)) [ true ↦ refl | false ↦ refl ]
  last_left is_hit gone same (x ∷ xs) = go (is_hit x) (p x) refl refl (last_left is_hit gone same xs)
    where
      stays : (if gone then None else last_row p xs) ≡ (if gone then None else or_else (last_row p xs) None)
      stays = ap (λ o. if gone then None else o) (sym (or_none (last_row p xs)))

      go : (a b : Bool) → is_hit x ≡ a → p x ≡ b → last_row p (filter (λ y. not (is_hit y)) xs) ≡ (if gone then None else last_row p xs)
          → last_row p (filter (λ y. not (is_hit y)) (x ∷ xs)) ≡ (if gone then None else last_row p (x ∷ xs))
      go true true s r h = let on : gone ≡ true = sym (same x r) ∙ s in rw (s, on) (rw on at h)
      go true false s r h = rw (s, r) (h ∙ stays)
      go false true s r h = let left : gone ≡ false = sym (same x r) ∙ s in rw (s, r, left) (ap (λ o. or_else o (Some x)) (rw left at h))
      go false false s r h = rw (s, r) (or_none _ ∙ h ∙ stays)

  -- ---- which rows are there

  -- where there is no last one, none passes
  pub no_row : (xs : List T) → last_row p xs ≡ None → AllByRecursion (λ x. p x ≡ false) xs
  no_row [] h = tt
  no_row (x ∷ xs) h = let parts = neither (last_row p xs) (own x) h in (off (p x) x parts.1, no_row xs parts.0)

  pub last_good : (P : T → Type 0) (xs : List T) → AllByRecursion P xs → IfGiven P (last_row p xs)
  last_good P [] all = tt
  last_good P (x ∷ xs) all = go (last_row p xs) (last_good P xs all.1)
    where
      go : (o : Option T) → IfGiven P o → IfGiven P (or_else o (own x))
      go (Some y) good = good
      go None good = elim (p x) as (λ b. IfGiven P (if b then Some x else None)) [ true ↦ all.0 | false ↦ tt ]

  -- no two pass
  abbrev pub OnePasses : List T → Type 0
  OnePasses xs = IsAscending (λ a b. (p a && p b) ≡ false) xs

  none_kept : (xs : List T) → AllByRecursion (λ x. p x ≡ false) xs → filter p xs ≡ []
  none_kept [] h = refl
  none_kept (x ∷ xs) h = rw h.0 (none_kept xs h.1)

  others_off : (x : T) (ys : List T) → p x ≡ true → AllByRecursion (λ y. (p x && p y) ≡ false) ys → AllByRecursion (λ y. p y ≡ false) ys
  others_off x [] on apart = tt
  others_off x (y ∷ ys) on apart = (sym (ap (λ b. b && p y) on) ∙ apart.0, others_off x ys on apart.1)

  pub one_kept : (xs : List T) → OnePasses xs → filter p xs ≡ option_map_or (λ x. x ∷ []) (last_row p xs) []
  one_kept [] apart = refl
  one_kept (x ∷ xs) apart = go (p x) refl (one_kept xs apart.1)
    where
      go : (b : Bool) → p x ≡ b → filter p xs ≡ option_map_or (λ y. y ∷ []) (last_row p xs) [] → filter p (x ∷ xs) ≡ option_map_or (λ y. y ∷ []) (last_row p (x ∷ xs)) []
      go true is h = let none = others_off x xs is apart.0 in rw (is, none_kept xs none, none_last xs none) refl
      go false is h = rw (is, or_none (last_row p xs)) h

  -- of rows that are alike where both pass, and of which no two are alike, one passes at most
  pub one_alike : (alike : T → T → Bool) → ((x y : T) → p x ≡ true → p y ≡ true → alike x y ≡ true) → (xs : List T) → IsAscending (λ a b. alike a b ≡ false) xs → OnePasses xs
  one_alike alike same xs apart = ascending_weaker (λ a b. alike a b ≡ false) (λ a b. (p a && p b) ≡ false)
      (λ a b other. false_from_ne_true (p a && p b) (λ both. let parts = and_parts (p a) (p b) both in true≢false (sym (same a b parts.0 parts.1) ∙ other))) xs apart

-- of rows whose numbers rise
pub one_numbered : {T : Type 0} (number : T → ℕ) (n : ℕ) (xs : List T) → IsAscending (λ a b. number a < number b) xs → OnePasses (λ x. number x == n) xs
one_numbered number n xs up = ascending_weaker (λ a b. number a < number b) (λ a b. ((number a == n) && (number b == n)) ≡ false)
    (λ a b low. false_from_ne_true _ (λ both. let parts = and_parts (number a == n) (number b == n) both in absurd (grind (arith, nat_tests, low, parts.0, parts.1)))) xs up

-- ---- what the last row says

mapped_if : {A B : Type 0} (f : A → B) (b : Bool) (x : A) (o : Option A) → option_map f (if b then Some x else o) ≡ (if b then Some (f x) else option_map f o)
mapped_if f true x o = refl
mapped_if f false x o = refl

mapped_none : {A B : Type 0} (f : A → B) (b : Bool) (o : Option A) → option_map f (if b then None else o) ≡ (if b then None else option_map f o)
mapped_none f true o = refl
mapped_none f false o = refl

none_mapped : {A B : Type 0} (f : A → B) (o : Option A) → option_map f o ≡ None → o ≡ None
none_mapped f None h = refl
none_mapped f (Some x) h = absurd cc

module _ {T A : Type 0} (of : T → A) (p : T → Bool) where
  abbrev said : List T → Option A
  said xs = option_map of (last_row p xs)

  pub said_more : (xs : List T) (x : T) → said (xs ++ x ∷ []) ≡ (if p x then Some (of x) else said xs)
  said_more xs x = ap (option_map of) (last_more p xs x) ∙ mapped_if of (p x) x (last_row p xs)

  pub said_left : (is_hit : T → Bool) (gone : Bool) → ((x : T) → p x ≡ true → is_hit x ≡ gone) → (xs : List T) → said (filter (λ x. not (is_hit x)) xs) ≡ (if gone then None else said xs)
  said_left is_hit gone same xs = ap (option_map of) (last_left p is_hit gone same xs) ∙ mapped_none of gone (last_row p xs)

  pub none_said : (xs : List T) → said xs ≡ None → AllByRecursion (λ x. p x ≡ false) xs
  none_said xs none = no_row p xs (none_mapped of (last_row p xs) none)

-- of rows that have numbers
module _ {T A : Type 0} (of : T → A) (number : T → ℕ) (n : ℕ) where
  abbrev is_it : T → Bool
  is_it x = number x == n

  pub numbered_more : (xs : List T) (x : T) → AllByRecursion (λ y. eqb (number y) (number x) ≡ false) xs
      → option_map of (last_row is_it (placed number xs x)) ≡ (if number x == n then Some (of x) else option_map of (last_row is_it xs))
  numbered_more xs x apart =
      ap (option_map of) (last_placed is_it number xs x (λ same. subst (λ m. AllByRecursion (λ y. eqb (number y) m ≡ false) xs) (eqb-true (number x) n same) apart))
      ∙ mapped_if of (number x == n) x (last_row is_it xs)

  pub numbered_left : (k : ℕ) (xs : List T) → option_map of (last_row is_it (filter (λ x. not (number x == k)) xs)) ≡ (if k == n then None else option_map of (last_row is_it xs))
  numbered_left k xs = said_left of is_it (λ x. number x == k) (k == n) (λ x same. ap (λ m. m == k) (eqb-true (number x) n same) ∙ turned n k) xs
