-- Numbers that are sorted, each once.
use Rattle.std.proofs.Common.{◌≡◌, ◌<◌, ℕ, true, false, cond, ◌||◌, eqb, List, [], ◌∷◌, sym, refl, ap, ◌∙◌, subst}
use Rattle.std.specs.Prelude.{◌==◌, nat_lt, Bool}
use Rattle.std.specs.Ordering.{nat_cmp}
use Rattle.std.specs.declared.cmp.Ordering.TheVariants.{Less, Equal, Greater}
use Rattle.std.specs.List.{list_any, dedup, dedup_from, AllByRecursion}
use Rattle.std.specs.List.Sorted.{IsPermutation, IsSorted, IsStrictlySortedBy}
use Rattle.std.proofs.lemmas.Bool.{false≢true, eqb-true, ltb-true}
use Rattle.std.proofs.lemmas.List.Sorted.{list_any-IsPermutation}
use Rattle.std.proofs.lemmas.Map.Keys.{sorted_from_strictly_increasing, IsStrictlyIncreasing-dedup}
use Rattle.bug_record.specs.Sets.{has, AllAbove, IsAscending}

any-has : (xs : List ℕ) (n : ℕ) → list_any (λ x. x == n) xs ≡ has xs n
any-has [] n = refl
any-has (x ∷ xs) n = ap (λ t. (x == n) || t) (any-has xs n)

has-from : (k : ℕ) (xs : List ℕ) (n : ℕ) → has (dedup_from eqb k xs) n ≡ has (k ∷ xs) n
has-from k [] n = refl
has-from k (x ∷ xs) n =
    elim (eqb x k) as (λ t. eqb x k ≡ t → has (cond t (dedup_from eqb k xs) (k ∷ dedup_from eqb x xs)) n
    ≡ (eqb k n || (eqb x n || has xs n))) [
      | true ↦ λ e. has-from k xs n ∙ again (eqb k n) (eqb x n) (has xs n) (ap (λ z. eqb z n) (eqb-true x k e))
      | false ↦ λ e. ap (λ t. eqb k n || t) (has-from x xs n)
    ] refl
  where
    again : (a b c : Bool) → b ≡ a → (a || c) ≡ (a || (b || c))
    again true b c e = refl
    again false true c e = absurd (false≢true (sym e))
    again false false c e = refl

has-dedup : (xs : List ℕ) (n : ℕ) → has (dedup eqb xs) n ≡ has xs n
has-dedup [] n = refl
has-dedup (x ∷ xs) n = has-from x xs n

pub has-sorted : (xs ys zs : List ℕ) → IsPermutation xs ys → zs ≡ dedup eqb ys → (n : ℕ) → has zs n ≡ has xs n
has-sorted xs ys zs moved is n =
    ap (λ z. has z n) is ∙ has-dedup ys n ∙ sym (any-has ys n) ∙ sym (list_any-IsPermutation (λ x. x == n) xs ys moved)
    ∙ any-has xs n

less : (x y : ℕ) → nat_cmp x y ≡ Less → x < y
less x y e =
    elim (nat_lt x y) as (λ s. nat_lt x y ≡ s → cond s Less (cond (x == y) Equal Greater) ≡ Less → x < y) [
      | true ↦ λ l _. ltb-true x y l
      | false ↦ λ _. elim (x == y) as (λ t. cond t Equal Greater ≡ Less → x < y)
          [ true ↦ λ q. absurd (cc) | false ↦ λ q. absurd (cc) ]
    ] refl e

all-above : (x : ℕ) (xs : List ℕ) → AllByRecursion (λ y. nat_cmp x y ≡ Less) xs → AllAbove x xs
all-above x [] h = tt
all-above x (y ∷ ys) h = (less x y h.0, all-above x ys h.1)

ascending : (xs : List ℕ) → IsStrictlySortedBy nat_cmp xs → IsAscending xs
unfolding IsStrictlySortedBy
ascending [] h = tt
ascending (x ∷ xs) h = (all-above x xs h.0, ascending xs h.1)

pub ascending-sorted : (ys zs : List ℕ) → IsSorted nat_cmp ys → zs ≡ dedup eqb ys → IsAscending zs
ascending-sorted ys zs up is =
    subst IsAscending (sym is)
    (ascending (dedup eqb ys) (sorted_from_strictly_increasing (dedup eqb ys) (IsStrictlyIncreasing-dedup ys up)))
