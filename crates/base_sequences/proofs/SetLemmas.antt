-- Sets of numbers as ascending lists.
use Rattle.std.proofs.Common.{◌≡◌, ◌<◌, ℕ, suc, zero, eqb, Bool, true, false, cond, ◌||◌, ◌&&◌, List, [], ◌∷◌, ◌++◌, sym, refl}
use Rattle.std.proofs.Common.{ap, ◌∙◌, subst, arith}
use Rattle.std.specs.Prelude.{filter, ◌==◌, nat_eq, nat_lt}
use Rattle.std.proofs.lemmas.Bool.{false≢true, eqb-true, eq-eqb, ltb-true, or_right}
use Rattle.std.proofs.lemmas.Bool.Decides.{nat_tests}
use Rattle.base_sequences.specs.Sets.{has, AllAbove, IsAscending, with_item, number_set, numbers_below}
use Rattle.std.specs.List.{list_any}

-- tests that hold together are the same
pub same_test : (a b : Bool) → (a ≡ true → b ≡ true) → (b ≡ true → a ≡ true) → a ≡ b
same_test true b f g = sym (f refl)
same_test false true f g = g refl
same_test false false f g = refl

-- what `contains` says of a list of numbers
pub contains-has : (ns : List ℕ) (n : ℕ) → list_any (λ x. nat_eq x n) ns ≡ has ns n
contains-has [] n = refl
contains-has (x ∷ ns) n = ap (λ t. nat_eq x n || t) (contains-has ns n)

-- what is in a list of two parts
pub has-append : (xs ys : List ℕ) (m : ℕ) → has (xs ++ ys) m ≡ (has xs m || has ys m)
has-append [] ys m = refl
has-append (x ∷ xs) ys m = ap (λ t. (x == m) || t) (has-append xs ys m) ∙ group (x == m) (has xs m) (has ys m)
  where
    group : (a b c : Bool) → (a || (b || c)) ≡ ((a || b) || c)
    group true b c = refl
    group false b c = refl

-- what is in a set with one more
pub has-with_item : (xs : List ℕ) (n m : ℕ) → has (with_item (λ k. k) xs n) m ≡ (has xs m || (n == m))
has-with_item [] n m = elim (n == m) as (λ t. (t || false) ≡ t) [ true ↦ refl | false ↦ refl ]
has-with_item (x ∷ xs) n m =
    elim (nat_lt x n) as (λ t. has (cond t (x ∷ with_item (λ k. k) xs n) (cond (x == n) (x ∷ xs) (n ∷ x ∷ xs))) m
    ≡ (((x == m) || has xs m) || (n == m))) [
      | true ↦ ap (λ b. (x == m) || b) (has-with_item xs n m) ∙ regroup (x == m) (has xs m) (n == m)
      | false ↦ elim (x == n) as (λ t. (x == n) ≡ t → has (cond t (x ∷ xs) (n ∷ x ∷ xs)) m
          ≡ (((x == m) || has xs m) || (n == m))) [
            | true ↦ λ e. again (x == m) (has xs m) (n == m) (ap (λ k. k == m) (eqb-true x n e))
            | false ↦ λ e. turn (x == m) (has xs m) (n == m)
          ] refl
    ]
  where
    regroup : (a b c : Bool) → (a || (b || c)) ≡ ((a || b) || c)
    regroup true b c = refl
    regroup false b c = refl

    again : (a b c : Bool) → a ≡ c → (a || b) ≡ ((a || b) || c)
    again true b c e = refl
    again false true c e = refl
    again false false c e = e

    turn : (a b c : Bool) → (c || (a || b)) ≡ ((a || b) || c)
    turn true b true = refl
    turn true b false = refl
    turn false true true = refl
    turn false true false = refl
    turn false false true = refl
    turn false false false = refl

-- each is above a number after one more that is
AllAbove-with_item : (xs : List ℕ) (k n : ℕ) → AllAbove k xs → k < n → AllAbove k (with_item (λ k. k) xs n)
AllAbove-with_item [] k n h l = (l, tt)
AllAbove-with_item (x ∷ xs) k n h l =
    elim (nat_lt x n) as (λ t. AllAbove k (cond t (x ∷ with_item (λ k. k) xs n) (cond (x == n) (x ∷ xs) (n ∷ x ∷ xs)))) [
      | true ↦ (h.0, AllAbove-with_item xs k n h.1 l)
      | false ↦ elim (x == n) as (λ t. AllAbove k (cond t (x ∷ xs) (n ∷ x ∷ xs))) [ true ↦ h | false ↦ (l, h) ]
    ]

pub AllAbove-below : (xs : List ℕ) (j k : ℕ) → j < k → AllAbove k xs → AllAbove j xs
AllAbove-below [] j k l h = tt
AllAbove-below (x ∷ xs) j k l h = (omega (arith, l, h.0), AllAbove-below xs j k l h.1)

-- sets are ascending
pub IsAscending-with_item : (xs : List ℕ) (n : ℕ) → IsAscending xs → IsAscending (with_item (λ k. k) xs n)
IsAscending-with_item [] n h = (tt, tt)
IsAscending-with_item (x ∷ xs) n h =
    elim (nat_lt x n) as (λ t. nat_lt x n ≡ t
    → IsAscending (cond t (x ∷ with_item (λ k. k) xs n) (cond (x == n) (x ∷ xs) (n ∷ x ∷ xs)))) [
      | true ↦ λ e. (AllAbove-with_item xs x n h.0 (ltb-true x n e), IsAscending-with_item xs n h.1)
      | false ↦ λ e. elim (x == n) as (λ t. (x == n) ≡ t → IsAscending (cond t (x ∷ xs) (n ∷ x ∷ xs)))
          [ true ↦ λ q. h | false ↦ λ q. let l : n < x = above x n e q in ((l, AllAbove-below xs n x l h.0), h) ] refl
    ] refl
  where
    above : (x n : ℕ) → nat_lt x n ≡ false → (x == n) ≡ false → n < x
    above x n e q = grind (arith, nat_tests)

-- a part of a set
AllAbove-filter : (p : ℕ → Bool) (xs : List ℕ) (k : ℕ) → AllAbove k xs → AllAbove k (filter p xs)
AllAbove-filter p [] k h = tt
AllAbove-filter p (x ∷ xs) k h =
    elim (p x) as (λ t. AllAbove k (cond t (x ∷ filter p xs) (filter p xs)))
    [ true ↦ (h.0, AllAbove-filter p xs k h.1) | false ↦ AllAbove-filter p xs k h.1 ]

pub IsAscending-filter : (p : ℕ → Bool) (xs : List ℕ) → IsAscending xs → IsAscending (filter p xs)
IsAscending-filter p [] h = tt
IsAscending-filter p (x ∷ xs) h =
    elim (p x) as (λ t. IsAscending (cond t (x ∷ filter p xs) (filter p xs)))
    [ true ↦ (AllAbove-filter p xs x h.0, IsAscending-filter p xs h.1) | false ↦ IsAscending-filter p xs h.1 ]

pub has-filter : (p : ℕ → Bool) (xs : List ℕ) (m : ℕ) → has (filter p xs) m ≡ (has xs m && p m)
has-filter p [] m = refl
has-filter p (x ∷ xs) m =
    elim (p x) as (λ t. p x ≡ t → has (cond t (x ∷ filter p xs) (filter p xs)) m ≡ (((x == m) || has xs m) && p m)) [
      | true ↦ λ e. elim (x == m) as (λ t. (x == m) ≡ t → (t || has (filter p xs) m) ≡ ((t || has xs m) && p m))
          [ true ↦ λ q. sym (ap p (sym (eqb-true x m q)) ∙ e) | false ↦ λ q. has-filter p xs m ] refl
      | false ↦ λ e. elim (x == m) as (λ t. (x == m) ≡ t → has (filter p xs) m ≡ ((t || has xs m) && p m)) [
        | true ↦ λ q. has-filter p xs m ∙ none (has xs m) (p m) (ap p (sym (eqb-true x m q)) ∙ e)
        | false ↦
            λ q. has-filter p xs m
      ] refl
    ] refl
  where
    none : (a b : Bool) → b ≡ false → (a && b) ≡ b
    none true b e = refl
    none false b e = sym e

-- two ascending lists of the same numbers are one
pub has-above : (xs : List ℕ) (k m : ℕ) → AllAbove k xs → has xs m ≡ true → k < m
has-above [] k m h e = absurd (false≢true e)
has-above (x ∷ xs) k m h e =
    elim (x == m) as (λ t. (x == m) ≡ t → (t || has xs m) ≡ true → k < m)
    [ true ↦ λ q e. subst (λ z. k < z) (eqb-true x m q) h.0 | false ↦ λ q e. has-above xs k m h.1 e ] refl e

pub same-ascending : (xs ys : List ℕ) → IsAscending xs → IsAscending ys → ((m : ℕ) → has xs m ≡ has ys m) → xs ≡ ys
same-ascending [] [] a b h = refl
same-ascending [] (y ∷ ys) a b h = absurd (false≢true (h y ∙ ap (λ t. t || has ys y) (eq-eqb y y refl)))
same-ascending (x ∷ xs) [] a b h = absurd (false≢true (sym (h x) ∙ ap (λ t. t || has xs x) (eq-eqb x x refl)))
same-ascending (x ∷ xs) (y ∷ ys) a b h =
    let one : x ≡ y = first x xs y ys a b h in
    ap (λ z. z ∷ xs) one
    ∙ ap (λ zs. y ∷ zs) (same-ascending xs ys a.1 b.1 (λ m. rest x xs y ys a b h one m (has xs m) (has ys m) refl refl))
  where
    own : (z : ℕ) (zs : List ℕ) → has (z ∷ zs) z ≡ true
    own z zs = ap (λ t. t || has zs z) (eq-eqb z z refl)

    at_least : (x y : ℕ) (ys : List ℕ) → AllAbove y ys → has (y ∷ ys) x ≡ true → (y ≡ x → ⊥) → y < x
    at_least x y ys b e n =
        elim (y == x) as (λ t. (y == x) ≡ t → (t || has ys x) ≡ true → y < x)
        [ true ↦ λ q e. absurd (n (eqb-true y x q)) | false ↦ λ q e. has-above ys y x b e ] refl e

    first : (x : ℕ) (xs : List ℕ) (y : ℕ) (ys : List ℕ) → IsAscending (x ∷ xs) → IsAscending (y ∷ ys)
        → ((m : ℕ) → has (x ∷ xs) m ≡ has (y ∷ ys) m) → x ≡ y
    first x xs y ys a b h =
        elim (x == y) as (λ t. (x == y) ≡ t → x ≡ y) [
          | true ↦ λ q. eqb-true x y q
          | false ↦ λ q.
              let n : x ≡ y → ⊥ = λ e. false≢true (sym q ∙ eq-eqb x y e) in
              let below : y < x = at_least x y ys b.0 (sym (h x) ∙ own x xs) (λ e. n (sym e)) in
              let above : x < y = at_least y x xs a.0 (h y ∙ own y ys) n in
              absurd (omega (arith, below, above))
        ] refl

    -- a number in the rest of one list is above the first, so it is in the rest of the other
    rest : (x : ℕ) (xs : List ℕ) (y : ℕ) (ys : List ℕ) → IsAscending (x ∷ xs) → IsAscending (y ∷ ys)
        → ((m : ℕ) → has (x ∷ xs) m ≡ has (y ∷ ys) m) → x ≡ y → (m : ℕ) (s t : Bool) → has xs m ≡ s → has ys m ≡ t → s ≡ t
    rest x xs y ys a b h one m true true p q = refl
    rest x xs y ys a b h one m false false p q = refl
    rest x xs y ys a b h one m true false p q =
        absurd (lost y m ys q (sym (h m) ∙ or_right (x == m) (has xs m) p) (subst (λ z. z < m) one (has-above xs x m a.0 p)))
      where
        lost : (y m : ℕ) (ys : List ℕ) → has ys m ≡ false → ((y == m) || has ys m) ≡ true → y < m → ⊥
        lost y m ys q e l = elim (y == m) as (λ t. (y == m) ≡ t → (t || has ys m) ≡ true → ⊥) [
          | true ↦ λ r e. (let z : y ≡ m = eqb-true y m r in omega (arith, z, l))
          | false ↦
              λ r e. absurd (false≢true (sym q ∙ e))
        ] refl e
    rest x xs y ys a b h one m false true p q =
        absurd (lost x m xs p (h m ∙ or_right (y == m) (has ys m) q) (subst (λ z. z < m) (sym one) (has-above ys y m b.0 q)))
      where
        lost : (y m : ℕ) (ys : List ℕ) → has ys m ≡ false → ((y == m) || has ys m) ≡ true → y < m → ⊥
        lost y m ys q e l = elim (y == m) as (λ t. (y == m) ≡ t → (t || has ys m) ≡ true → ⊥) [
          | true ↦ λ r e. (let z : y ≡ m = eqb-true y m r in omega (arith, z, l))
          | false ↦
              λ r e. absurd (false≢true (sym q ∙ e))
        ] refl e

-- what is in a list of one number
pub one_number : (m n : ℕ) → has (n ∷ []) m ≡ true → m ≡ n
one_number m n h = elim (eqb n m) as (λ z. eqb n m ≡ z → (z || false) ≡ true → m ≡ n)
    [ true ↦ λ e _. sym (eqb-true n m e) | false ↦ λ _ q. absurd (false≢true q) ] refl h

-- the numbers below n
pub has-numbers_below : (n m : ℕ) → has (numbers_below n) m ≡ nat_lt m n
unfolding numbers_below
has-numbers_below zero m = none m
  where
    none : (m : ℕ) → false ≡ nat_lt m 0
    none m = grind (arith, nat_tests)
has-numbers_below (suc n) m =
    has-append (numbers_below n) (n ∷ []) m ∙ ap (λ t. t || ((n == m) || false)) (has-numbers_below n m) ∙ one_more n m
  where
    one_more : (n m : ℕ) → (nat_lt m n || ((n == m) || false)) ≡ nat_lt m (suc n)
    one_more n m = grind (arith, nat_tests)

IsAscending-append_one : (xs : List ℕ) (n : ℕ) → IsAscending xs → ((m : ℕ) → has xs m ≡ true → m < n) → IsAscending (xs ++ n ∷ [])
IsAscending-append_one [] n a h = (tt, tt)
IsAscending-append_one (x ∷ xs) n a h = (
  above xs a.0 (h x (ap (λ t. t || has xs x) (eq-eqb x x refl))),
  IsAscending-append_one xs n a.1 (λ m e. h m (or_right (x == m) (has xs m) e)),
)
  where
    above : (xs : List ℕ) → AllAbove x xs → x < n → AllAbove x (xs ++ n ∷ [])
    above [] a l = (l, tt)
    above (y ∷ ys) a l = (a.0, above ys a.1 l)

pub IsAscending-numbers_below : (n : ℕ) → IsAscending (numbers_below n)
unfolding numbers_below
IsAscending-numbers_below zero = tt
IsAscending-numbers_below (suc n) =
    IsAscending-append_one (numbers_below n) n (IsAscending-numbers_below n)
    (λ m e. ltb-true m n (sym (has-numbers_below n m) ∙ e))

-- the set of the numbers of a list
pub has-number_set : (ns : List ℕ) (m : ℕ) → has (number_set ns) m ≡ has ns m
has-number_set [] m = refl
has-number_set (n ∷ ns) m =
    has-with_item (number_set ns) n m ∙ ap (λ t. t || (n == m)) (has-number_set ns m) ∙ turned (has ns m) (n == m)
  where
    turned : (a b : Bool) → (a || b) ≡ (b || a)
    turned true true = refl
    turned true false = refl
    turned false true = refl
    turned false false = refl

pub IsAscending-number_set : (ns : List ℕ) → IsAscending (number_set ns)
IsAscending-number_set [] = tt
IsAscending-number_set (n ∷ ns) = IsAscending-with_item (number_set ns) n (IsAscending-number_set ns)
