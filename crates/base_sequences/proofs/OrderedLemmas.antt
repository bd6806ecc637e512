-- Ordered sets of std at numbers, by the ascending lists of this project.
use Rattle.std.proofs.Common.{◌≡◌, ℕ, true, false, cond, ◌||◌, List, [], ◌∷◌, sym, refl, ap, ◌∙◌, arith}
use Rattle.std.specs.Prelude.{◌==◌, nat_lt}
use Rattle.std.specs.List.{list_any}
use Rattle.std.specs.Ordering.{is_eq, match_ordering, nat_cmp}
use Rattle.std.specs.declared.cmp.Ordering.TheVariants.{Less, Equal, Greater}
use Rattle.std.specs.BTreeMap.{is_at}
use Rattle.std.specs.BTreeSet.{insert_key}
use Rattle.std.proofs.lemmas.Bool.Decides.{nat_tests}
use Rattle.base_sequences.specs.Sets.{has, with_item}

-- the tests of two numbers, by how they compare
below : (k x : ℕ) → nat_lt k x ≡ true → (nat_lt x k ≡ false) × ((x == k) ≡ false)
below k x l = (grind (arith, nat_tests), grind (arith, nat_tests))

same : (k x : ℕ) → nat_lt k x ≡ false → (k == x) ≡ true → (nat_lt x k ≡ false) × ((x == k) ≡ true)
same k x l e = (grind (arith, nat_tests), grind (arith, nat_tests))

above : (k x : ℕ) → nat_lt k x ≡ false → (k == x) ≡ false → (nat_lt x k ≡ true) × ((x == k) ≡ false)
above k x l e = (grind (arith, nat_tests), grind (arith, nat_tests))

pub eq_cmp : (k x : ℕ) → is_eq (nat_cmp k x) ≡ (x == k)
eq_cmp k x =
    elim (nat_lt k x) as (λ s. nat_lt k x ≡ s → is_eq (cond s Less (cond (k == x) Equal Greater)) ≡ (x == k)) [
      | true ↦ λ l. sym (below k x l).1
      | false ↦ λ l. elim (k == x) as (λ t. (k == x) ≡ t → is_eq (cond t Equal Greater) ≡ (x == k))
          [ true ↦ λ e. sym (same k x l e).1 | false ↦ λ e. sym (above k x l e).1 ] refl
    ] refl

-- a choice by the comparison, and by the tests
pub chosen : {A : Type 0} (k x : ℕ) (a b c : A) → match_ordering (nat_cmp k x) a b c ≡ cond (nat_lt x k) c (cond (x == k) b a)
chosen k x a b c =
    elim (nat_lt k x) as (λ s. nat_lt k x ≡ s
    → match_ordering (cond s Less (cond (k == x) Equal Greater)) a b c ≡ cond (nat_lt x k) c (cond (x == k) b a)) [
      | true ↦ λ l. λ j. cond (sym (below k x l).0 j) c (cond (sym (below k x l).1 j) b a)
      | false ↦ λ l. elim (k == x) as (λ t. (k == x) ≡ t
          → match_ordering (cond t Equal Greater) a b c ≡ cond (nat_lt x k) c (cond (x == k) b a)) [
            | true ↦ λ e. λ j. cond (sym (same k x l e).0 j) c (cond (sym (same k x l e).1 j) b a)
            | false ↦ λ e. λ j. cond (sym (above k x l e).0 j) c (cond (x == k) b a)
          ] refl
    ] refl

-- a number that is put into a set
pub with_key : (xs : List ℕ) (k : ℕ) → insert_key nat_cmp xs k ≡ with_item (λ n. n) xs k
with_key [] k = refl
with_key (x ∷ xs) k =
    chosen k x (k ∷ x ∷ xs) (x ∷ xs) (x ∷ insert_key nat_cmp xs k)
    ∙ ap (λ zs. cond (nat_lt x k) (x ∷ zs) (cond (x == k) (x ∷ xs) (k ∷ x ∷ xs))) (with_key xs k)

-- what is in a set
pub has-key : (xs : List ℕ) (k : ℕ) → list_any (is_at (nat_cmp k)) xs ≡ has xs k
has-key [] k = refl
has-key (x ∷ xs) k = λ j. eq_cmp k x j || has-key xs k j
