-- Rows that are their key: each gives one item to one owner.
-- What a row that is added or left out makes of the items of each owner, and which are there.
-- Nothing here speaks of a statement.
use Rattle.table_schema.proofs.Imports.{◌≡◌, ℕ, Bool, true, false, not, ◌&&◌, ◌||◌, cond, if◌then◌else◌, filter, map, List, [], ◌∷◌, ◌++◌, append-nil, refl, sym, ap, ◌∙◌, eqb, arith, true≢false, AllByRecursion, list_any, IsPermutation, list_any-IsPermutation, nat_tests}

-- what is to be known of such rows
pub record OwnerRows (T O I : Type 0) : Type 0 where
  pub owner : T → O
  pub item : T → I
  pub one_owner : O → O → Bool
  pub owner_is : (a b : O) → one_owner a b ≡ true → a ≡ b
  pub one_item : I → I → Bool
  -- the items of an owner as they are told, with one more, and whether one is there
  pub all : List I → List I
  pub add : List I → I → List I
  pub has : List I → I → Bool
  pub none : all [] ≡ []
  pub last : (is : List I) (i : I) → all (is ++ i ∷ []) ≡ add (all is) i
  pub empty : (i : I) → has [] i ≡ false
  pub first : (i : I) (is : List I) (j : I) → has (i ∷ is) j ≡ (one_item i j || has is j)
  pub there : (is : List I) (i : I) → has (all is) i ≡ has is i

-- numbers are equal either way
pub turned : (a b : ℕ) → eqb a b ≡ eqb b a
turned a b = grind (arith, nat_tests)

pub and_assoc : (a b c : Bool) → (a && (b && c)) ≡ ((a && b) && c)
and_assoc true b c = refl
and_assoc false b c = refl

neither : (a b : Bool) → (a || b) ≡ false → (a ≡ false) × (b ≡ false)
neither true b off = absurd (true≢false off)
neither false b off = (refl, off)

module _ {T O I : Type 0} (k : OwnerRows T O I) where
  -- the items of an owner, as the rows have them
  abbrev pub items_of : O → List T → List I
  items_of o xs = map k.item (filter (λ x. k.one_owner (k.owner x) o) xs)

  -- and as they are told
  abbrev pub told : List T → O → List I
  told xs o = k.all (items_of o xs)

  of_last : (o : O) (xs : List T) (x : T) → items_of o (xs ++ x ∷ []) ≡ items_of o xs ++ (if k.one_owner (k.owner x) o then k.item x ∷ [] else [])
  of_last o [] x = elim (k.one_owner (k.owner x) o) as (λ b. map k.item (cond b (x ∷ []) []) ≡ (if b then k.item x ∷ [] else [])) [ true ↦ refl | false ↦ refl ]
  of_last o (y ∷ xs) x =
      elim (k.one_owner (k.owner y) o) as (λ b. map k.item (cond b (y ∷ filter (λ z. k.one_owner (k.owner z) o) (xs ++ x ∷ [])) (filter (λ z. k.one_owner (k.owner z) o) (xs ++ x ∷ [])))
      ≡ map k.item (cond b (y ∷ filter (λ z. k.one_owner (k.owner z) o) xs) (filter (λ z. k.one_owner (k.owner z) o) xs)) ++ (if k.one_owner (k.owner x) o then k.item x ∷ [] else []))
      [ true ↦ ap (λ is. k.item y ∷ is) (of_last o xs x) | false ↦ of_last o xs x ]

  -- its owner has one more
  pub one_more : (xs : List T) (x : T) (o : O) → told (xs ++ x ∷ []) o ≡ (if k.one_owner (k.owner x) o then k.add (told xs (k.owner x)) (k.item x) else told xs o)
  one_more xs x o = ap k.all (of_last o xs x) ∙ go (k.one_owner (k.owner x) o) refl
    where
      go : (b : Bool) → k.one_owner (k.owner x) o ≡ b → k.all (items_of o xs ++ (if b then k.item x ∷ [] else [])) ≡ (if b then k.add (told xs (k.owner x)) (k.item x) else told xs o)
      go true is = k.last (items_of o xs) (k.item x) ∙ ap (λ p. k.add (told xs p) (k.item x)) (sym (k.owner_is (k.owner x) o is))
      go false is = ap k.all (append-nil (items_of o xs))

  items_left : (is_hit : T → Bool) (is_gone : O → Bool) → ((x : T) → is_hit x ≡ is_gone (k.owner x)) → (xs : List T) (o : O)
      → items_of o (filter (λ x. not (is_hit x)) xs) ≡ (if is_gone o then [] else items_of o xs)
  items_left is_hit is_gone same [] o = elim (is_gone o) as (λ b. ◌≡◌ {A = List I} [] (if b then [] else [])) [ true ↦ refl | false ↦ refl ]
  items_left is_hit is_gone same (x ∷ xs) o = go (is_hit x) (k.one_owner (k.owner x) o) refl refl (items_left is_hit is_gone same xs o)
    where
      own : k.one_owner (k.owner x) o ≡ true → is_gone o ≡ is_hit x
      own one = ap is_gone (sym (k.owner_is (k.owner x) o one)) ∙ sym (same x)

      go : (a b : Bool) → is_hit x ≡ a → k.one_owner (k.owner x) o ≡ b → items_of o (filter (λ y. not (is_hit y)) xs) ≡ (if is_gone o then [] else items_of o xs)
          → items_of o (filter (λ y. not (is_hit y)) (x ∷ xs)) ≡ (if is_gone o then [] else items_of o (x ∷ xs))
      go true true p q h = let gone = own q ∙ p in rw (p, gone) (rw gone at h)
      go true false p q h = rw (p, q) h
      go false true p q h = let left = own q ∙ p in rw (p, q, left) (ap (λ is. k.item x ∷ is) (rw left at h))
      go false false p q h = rw (p, q) h

  -- the owners whose rows are left out have none
  pub none_left : (is_hit : T → Bool) (is_gone : O → Bool) → ((x : T) → is_hit x ≡ is_gone (k.owner x)) → (xs : List T) (o : O)
      → told (filter (λ x. not (is_hit x)) xs) o ≡ (if is_gone o then [] else told xs o)
  none_left is_hit is_gone same xs o = ap k.all (items_left is_hit is_gone same xs o) ∙ elim (is_gone o) as (λ b. k.all (if b then [] else items_of o xs) ≡ (if b then [] else told xs o)) [ true ↦ k.none | false ↦ refl ]

  apart_in : (o : O) (i : I) (is_same : T → Bool) → ((x : T) → is_same x ≡ (k.one_owner (k.owner x) o && k.one_item (k.item x) i)) → (xs : List T)
      → k.has (items_of o xs) i ≡ false → AllByRecursion (λ x. is_same x ≡ false) xs
  apart_in o i is_same same [] h = tt
  apart_in o i is_same same (x ∷ xs) h = go (k.one_owner (k.owner x) o) refl (apart_in o i is_same same xs)
    where
      go : (b : Bool) → k.one_owner (k.owner x) o ≡ b → (k.has (items_of o xs) i ≡ false → AllByRecursion (λ x. is_same x ≡ false) xs) → AllByRecursion (λ x. is_same x ≡ false) (x ∷ xs)
      go true is more =
          let parts = neither (k.one_item (k.item x) i) (k.has (items_of o xs) i) (sym (k.first (k.item x) (items_of o xs) i) ∙ rw is at h) in
          (same x ∙ rw is parts.0, more parts.1)
      go false is more = (same x ∙ rw is refl, more (rw is at h))

  -- where an owner has not an item, no row gives it
  pub apart : (o : O) (i : I) (is_same : T → Bool) → ((x : T) → is_same x ≡ (k.one_owner (k.owner x) o && k.one_item (k.item x) i)) → (xs : List T)
      → k.has (told xs o) i ≡ false → AllByRecursion (λ x. is_same x ≡ false) xs
  apart o i is_same same xs h = apart_in o i is_same same xs (sym (k.there (items_of o xs) i) ∙ h)

  -- ---- the owners of an item

  owners : (o : O) (i : I) (xs : List T) → list_any (λ x. k.one_owner (k.owner x) o) (filter (λ x. k.one_item (k.item x) i) xs) ≡ k.has (items_of o xs) i
  owners o i [] = sym (k.empty i)
  owners o i (x ∷ xs) = go (k.one_owner (k.owner x) o) (k.one_item (k.item x) i) refl refl (owners o i xs)
    where
      go : (a b : Bool) → k.one_owner (k.owner x) o ≡ a → k.one_item (k.item x) i ≡ b → list_any (λ y. k.one_owner (k.owner y) o) (filter (λ y. k.one_item (k.item y) i) xs) ≡ k.has (items_of o xs) i
          → list_any (λ y. k.one_owner (k.owner y) o) (filter (λ y. k.one_item (k.item y) i) (x ∷ xs)) ≡ k.has (items_of o (x ∷ xs)) i
      go true true p q h = rw (p, q, p, k.first (k.item x) (items_of o xs) i, q) refl
      go true false p q h = rw (p, q, k.first (k.item x) (items_of o xs) i, q) h
      go false true p q h = rw (p, q, p) h
      go false false p q h = rw (p, q) h

  any_mapped : {B : Type 0} (of : T → B) (is_hit : B → Bool) (is_same : T → Bool) → ((x : T) → is_hit (of x) ≡ is_same x) → (xs : List T) → list_any is_hit (map of xs) ≡ list_any is_same xs
  any_mapped of is_hit is_same same [] = refl
  any_mapped of is_hit is_same same (x ∷ xs) = (λ i. same x i || any_mapped of is_hit is_same same xs i)

  -- an owner is among those whose rows give an item, in any order, where it has the item
  pub owners_any : {B : Type 0} (of : T → B) (is_hit : B → Bool) (o : O) (i : I) → ((x : T) → is_hit (of x) ≡ k.one_owner (k.owner x) o) → (xs : List T) (ys : List B)
      → IsPermutation (map of (filter (λ x. k.one_item (k.item x) i) xs)) ys → list_any is_hit ys ≡ k.has (told xs o) i
  owners_any of is_hit o i same xs ys any =
      sym (list_any-IsPermutation is_hit _ ys any) ∙ any_mapped of is_hit (λ x. k.one_owner (k.owner x) o) same (filter (λ x. k.one_item (k.item x) i) xs) ∙ owners o i xs ∙ sym (k.there (items_of o xs) i)
