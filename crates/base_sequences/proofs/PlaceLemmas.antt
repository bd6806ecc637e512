-- An item added to an ascending list goes to its place.
use Rattle.std.proofs.Common.{◌≡◌, ◌≤◌, ◌+◌, ℕ, suc, true, false, cond, List, [], ◌∷◌, length, sym, refl, ap, ◌∙◌, subst, arith}
use Rattle.std.specs.Prelude.{slice_get, insert, ◌==◌, nat_lt}
use Rattle.std.proofs.lemmas.Bool.{false≢true}
use Rattle.std.specs.Ordering.{is_eq, match_ordering}
use Rattle.std.specs.declared.cmp.Ordering.{Ordering}
use Rattle.std.specs.declared.cmp.Ordering.TheVariants.{Less, Equal, Greater}
use Rattle.std.specs.BTreeSet.{insert_key}
use Rattle.base_sequences.specs.Sets.{with_item}
use Rattle.base_sequences.specs.Places.{place_for, is_at, place_in, is_this}

-- the place for an item is within the list
pub place_for-le : {T : Type 0} (key : T → ℕ) (ys : List T) (n : ℕ) → place_for key ys n ≤ length ys
place_for-le key [] n = omega arith
place_for-le key (y ∷ ys) n =
    elim (nat_lt (key y) n) as (λ t. cond t (1 + place_for key ys n) 0 ≤ length (y ∷ ys))
    [ true ↦ omega (arith, place_for-le key ys n) | false ↦ omega arith ]

-- at an item of the number nothing is added
pub with_item-same : {T : Type 0} (key : T → ℕ) (ys : List T) (x : T)
    → is_at key (slice_get ys (place_for key ys (key x))) (key x) ≡ true → with_item key ys x ≡ ys
with_item-same key [] x h = absurd (false≢true h)
with_item-same key (y ∷ ys) x h =
    elim (nat_lt (key y) (key x)) as (λ t. is_at key (slice_get (y ∷ ys) (cond t (1 + place_for key ys (key x)) 0)) (key x) ≡ true
    → cond t (y ∷ with_item key ys x) (cond (key y == key x) (y ∷ ys) (x ∷ y ∷ ys)) ≡ y ∷ ys) [
      | true ↦ λ h. ap (λ zs. y ∷ zs)
          (with_item-same key ys x
          (subst (λ p. is_at key (slice_get (y ∷ ys) p) (key x) ≡ true) (add-comm-one (place_for key ys (key x))) h))
      | false ↦ λ h. ap (λ t. cond t (y ∷ ys) (x ∷ y ∷ ys)) h
    ] h
  where
    add-comm-one : (k : ℕ) → 1 + k ≡ suc k
    add-comm-one k = omega arith

-- elsewhere the item goes there
pub with_item-new : {T : Type 0} (key : T → ℕ) (ys : List T) (x : T)
    → is_at key (slice_get ys (place_for key ys (key x))) (key x) ≡ false
    → insert ys (place_for key ys (key x)) x ≡ with_item key ys x
with_item-new key [] x h = refl
with_item-new key (y ∷ ys) x h =
    elim (nat_lt (key y) (key x)) as (λ t. is_at key (slice_get (y ∷ ys) (cond t (1 + place_for key ys (key x)) 0)) (key x)
    ≡ false → insert (y ∷ ys) (cond t (1 + place_for key ys (key x)) 0) x
    ≡ cond t (y ∷ with_item key ys x) (cond (key y == key x) (y ∷ ys) (x ∷ y ∷ ys))) [
      | true ↦ λ h. subst (λ p. insert (y ∷ ys) p x ≡ y ∷ with_item key ys x) (sym (add-comm-one (place_for key ys (key x))))
          (ap (λ zs. y ∷ zs) (with_item-new key ys x
          (subst (λ p. is_at key (slice_get (y ∷ ys) p) (key x) ≡ false) (add-comm-one (place_for key ys (key x))) h)))
      | false ↦ λ h. ap (λ t. cond t (y ∷ ys) (x ∷ y ∷ ys)) (sym h)
    ] h
  where
    add-comm-one : (k : ℕ) → 1 + k ≡ suc k
    add-comm-one k = omega arith

-- ---- the same in a list in an order

pub place_in-le : {T : Type 0} (cmp : T → T → Ordering) (ys : List T) (x : T) → place_in cmp ys x ≤ length ys
place_in-le cmp [] x = omega arith
place_in-le cmp (y ∷ ys) x =
    elim (cmp x y) as (λ o. match_ordering o 0 0 (1 + place_in cmp ys x) ≤ length (y ∷ ys))
    [ Less ↦ omega arith | Equal ↦ omega arith | Greater ↦ omega (arith, place_in-le cmp ys x) ]

one_more : (k : ℕ) → 1 + k ≡ suc k
one_more k = omega arith

-- where the item stands nothing is added
pub insert_key-same : {T : Type 0} (cmp : T → T → Ordering) (ys : List T) (x : T)
    → is_this cmp (slice_get ys (place_in cmp ys x)) x ≡ true → insert_key cmp ys x ≡ ys
insert_key-same cmp [] x h = absurd (false≢true h)
insert_key-same cmp (y ∷ ys) x h =
    elim (cmp x y) as (λ o. cmp x y ≡ o
    → is_this cmp (slice_get (y ∷ ys) (match_ordering o 0 0 (1 + place_in cmp ys x))) x ≡ true
    → match_ordering o (x ∷ y ∷ ys) (y ∷ ys) (y ∷ insert_key cmp ys x) ≡ y ∷ ys) [
      | Less ↦ λ e h. absurd (false≢true (sym (ap is_eq e) ∙ h))
      | Equal ↦ λ e h. refl
      | Greater ↦ λ e h. ap (λ zs. y ∷ zs)
          (insert_key-same cmp ys x
          (subst (λ p. is_this cmp (slice_get (y ∷ ys) p) x ≡ true) (one_more (place_in cmp ys x)) h))
    ] refl h

-- elsewhere the item goes there
pub insert_key-new : {T : Type 0} (cmp : T → T → Ordering) (ys : List T) (x : T)
    → is_this cmp (slice_get ys (place_in cmp ys x)) x ≡ false
    → insert ys (place_in cmp ys x) x ≡ insert_key cmp ys x
insert_key-new cmp [] x h = refl
insert_key-new cmp (y ∷ ys) x h =
    elim (cmp x y) as (λ o. cmp x y ≡ o
    → is_this cmp (slice_get (y ∷ ys) (match_ordering o 0 0 (1 + place_in cmp ys x))) x ≡ false
    → insert (y ∷ ys) (match_ordering o 0 0 (1 + place_in cmp ys x)) x
    ≡ match_ordering o (x ∷ y ∷ ys) (y ∷ ys) (y ∷ insert_key cmp ys x)) [
      | Less ↦ λ e h. refl
      | Equal ↦ λ e h. absurd (false≢true (sym h ∙ ap is_eq e))
      | Greater ↦ λ e h. subst (λ p. insert (y ∷ ys) p x ≡ y ∷ insert_key cmp ys x) (sym (one_more (place_in cmp ys x)))
          (ap (λ zs. y ∷ zs) (insert_key-new cmp ys x
          (subst (λ p. is_this cmp (slice_get (y ∷ ys) p) x ≡ false) (one_more (place_in cmp ys x)) h)))
    ] refl h
