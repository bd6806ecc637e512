-- Digits compare as the numbers that they are, of any size.

use Rattle.std.proofs.Common.{◌≡◌, ℕ, ◌+◌, ◌-◌, ◌*◌, ◌<◌, ◌≤◌, suc, List, [], ◌∷◌, length, take, drop, refl, ap, sym, ◌∙◌, arith}
use Rattle.std.proofs.Common.{true, false, cond, ◌&&◌, inl, inr}
use Rattle.std.specs.List.{prefix_len, list_all}
use Rattle.std.specs.Ordering.{nat_cmp, ordering_then}
use Rattle.std.specs.Cmp.Lexicographic.{slice_cmp}
use Rattle.std.specs.declared.cmp.Ordering.{Ordering}
use Rattle.std.specs.declared.cmp.Ordering.TheVariants.{Less, Equal, Greater}
use Rattle.std.proofs.lemmas.Bool.Decides.{nat_tests}
use Rattle.std.proofs.lemmas.Bool.{cases_Bool, and_parts, cases_order}
use Rattle.debver.specs.Characters.{is_digit}
use Rattle.debver.specs.Keys.{value, value_from}
use Rattle.debver.specs.Walk.{is_zero}

digit_bounds : (c : ℕ) → is_digit c ≡ true → (48 ≤ c) × (c - 48 ≤ 9)
digit_bounds c e = grind (arith, nat_tests)

first_is : (c : ℕ) (s : List ℕ) → list_all is_digit (c ∷ s) ≡ true → is_digit c ≡ true
first_is c s e = (and_parts (is_digit c) (list_all is_digit s) e).0

rest_are : (c : ℕ) (s : List ℕ) → list_all is_digit (c ∷ s) ≡ true → list_all is_digit s ≡ true
rest_are c s e = (and_parts (is_digit c) (list_all is_digit s) e).1

-- no fewer digits after a greater number are worth more
below : (m n : ℕ) (s t : List ℕ) → list_all is_digit s ≡ true → length s ≤ length t → m < n → value_from m s < value_from n t
below m n [] [] d l h = h
below m n [] (b ∷ t) d l h = below m (n * 10 + (b - 48)) [] t d (omega arith) (omega arith)
below m n (a ∷ s) [] d l h = absurd (omega arith)
below m n (a ∷ s) (b ∷ t) d l h =
    let bounds = digit_bounds a (first_is a s d) in
    below (m * 10 + (a - 48)) (n * 10 + (b - 48)) s t (rest_are a s d) (omega arith) (omega arith)

one_digit : (m n a b : ℕ) (o : Ordering) → is_digit a ≡ true → is_digit b ≡ true
    → ordering_then (nat_cmp (m * 10 + (a - 48)) (n * 10 + (b - 48))) o
    ≡ ordering_then (nat_cmp m n) (ordering_then (nat_cmp a b) o)
one_digit m n a b o p q =
    let x = digit_bounds a p in
    let y = digit_bounds b q in
    grind (arith, nat_tests)

ended : (o : Ordering) → o ≡ ordering_then o Equal
ended Less = refl
ended Equal = refl
ended Greater = refl

-- as many digits compare from the left
same_length : (m n : ℕ) (s t : List ℕ) → list_all is_digit s ≡ true → list_all is_digit t ≡ true → length s ≡ length t
    → nat_cmp (value_from m s) (value_from n t) ≡ ordering_then (nat_cmp m n) (slice_cmp nat_cmp s t)
same_length m n [] [] d e l = ended (nat_cmp m n)
same_length m n [] (b ∷ t) d e l = absurd (omega arith)
same_length m n (a ∷ s) [] d e l = absurd (omega arith)
same_length m n (a ∷ s) (b ∷ t) d e l =
    same_length (m * 10 + (a - 48)) (n * 10 + (b - 48)) s t (rest_are a s d) (rest_are b t e) (omega arith)
    ∙ one_digit m n a b (slice_cmp nat_cmp s t) (first_is a s d) (first_is b t e)

-- digits with no zero at their head
pub record AreStripped (s : List ℕ) : Type 0 where
  pub digits : list_all is_digit s ≡ true
  pub head : (c : ℕ) (r : List ℕ) → s ≡ c ∷ r → is_zero c ≡ false

pub stripped : (s : List ℕ) → list_all is_digit s ≡ true → AreStripped (drop (prefix_len is_zero s) s)
    × (value (drop (prefix_len is_zero s) s) ≡ value s)
stripped [] d = (record { digits = refl; head = λ c r e. absurd (cc) }, refl)
stripped (c ∷ s) d =
    elim (cases_Bool (is_zero c)) [
      | inl e ↦
          let n : prefix_len is_zero (c ∷ s) ≡ suc (prefix_len is_zero s) =
          ap (λ b. cond b (1 + prefix_len is_zero s) 0) e ∙ omega arith in
          let h = stripped s (rest_are c s d) in
          let z : c - 48 ≡ 0 = grind (arith, nat_tests) in
          (rw n (h.0), rw n (h.1 ∙ sym (ap (λ (m : ℕ). value_from m s) (omega (arith, z)))))
      | inr e ↦
          let n : prefix_len is_zero (c ∷ s) ≡ 0 = ap (λ b. cond b (1 + prefix_len is_zero s) 0) e in
          (rw n (record { digits = d; head = λ a r h. cc }), rw n)
    ]

longer : (s t : List ℕ) → AreStripped s → AreStripped t → length s < length t → value s < value t
longer s [] p q h = absurd (omega arith)
longer s (b ∷ t) p q h =
    let z = q.head b t refl in
    let bounds = digit_bounds b (first_is b t q.digits) in
    let pos : 0 < 0 * 10 + (b - 48) = grind (arith, nat_tests) in
    below 0 (0 * 10 + (b - 48)) s t p.digits (omega arith) pos

-- digits with no zero at their head compare by their number, and then from the left
pub stripped_cmp : (s t : List ℕ) → AreStripped s → AreStripped t
    → nat_cmp (value s) (value t) ≡ ordering_then (nat_cmp (length s) (length t)) (slice_cmp nat_cmp s t)
stripped_cmp s t p q =
    elim (cases_order (length s) (length t)) [
      | inl e ↦ same_length 0 0 s t p.digits q.digits e ∙ grind (arith, nat_tests)
      | inr w ↦ elim w [
        | inl l ↦ let v = longer s t p q l in grind (arith, nat_tests)
        | inr l ↦ let v = longer t s q p l in grind (arith, nat_tests)
      ]
    ]

-- the digits at the head of a string are digits
pub digits_first : (s : List ℕ) → list_all is_digit (take (prefix_len is_digit s) s) ≡ true
digits_first [] = refl
digits_first (c ∷ s) =
    elim (cases_Bool (is_digit c)) [
      | inl e ↦
          let n : prefix_len is_digit (c ∷ s) ≡ suc (prefix_len is_digit s) =
          ap (λ b. cond b (1 + prefix_len is_digit s) 0) e ∙ omega arith in
          rw n (ap (λ b. b && list_all is_digit (take (prefix_len is_digit s) s)) e ∙ digits_first s)
      | inr e ↦
          let n : prefix_len is_digit (c ∷ s) ≡ 0 = ap (λ b. cond b (1 + prefix_len is_digit s) 0) e in
          rw n refl
    ]
