-- One step of the walk over two strings, as a step of the comparison of their keys.

use Rattle.std.proofs.Common.{◌≡◌, ◌≢◌, ℕ, ◌+◌, ◌-◌, ◌*◌, suc, List, [], ◌∷◌, length, take, drop, refl, ap, sym, ◌∙◌, arith, true}
use Rattle.std.proofs.Common.{false, cond, not, ◌||◌, inl, inr}
use Rattle.std.specs.Prelude.{Some}
use Rattle.std.specs.List.{prefix_len}
use Rattle.std.specs.Ordering.{nat_cmp, ordering_then}
use Rattle.std.specs.declared.cmp.Ordering.{Ordering}
use Rattle.std.proofs.lemmas.Bool.Decides.{nat_tests}
use Rattle.std.proofs.lemmas.Bool.{cases_Bool}
use Rattle.debver.specs.Characters.{is_digit}
use Rattle.debver.specs.Keys.{key_cmp, key, key_from, string_cmp, weight, value, value_from, key_after}
use Rattle.debver.specs.Walk.{head_weight, starts_word}
use Rattle.debver.proofs.KeyLaws.{key_cmp_walk, key_cmp_at}

-- an ended key goes on with 1, 0
key_cmp_ended_left : (l : List ℕ) → key_cmp [] l ≡ key_cmp (1 ∷ 0 ∷ []) l
key_cmp_ended_left l =
    key_cmp_at (suc (suc (length l + 2))) [] l (omega arith)
    ∙ sym (key_cmp_at (suc (suc (length l + 2))) (1 ∷ 0 ∷ []) l (omega arith))

key_cmp_ended_right : (k : List ℕ) → key_cmp k [] ≡ key_cmp k (1 ∷ 0 ∷ [])
key_cmp_ended_right k =
    key_cmp_at (suc (suc (length k + 2))) k [] (omega arith)
    ∙ sym (key_cmp_at (suc (suc (length k + 2))) k (1 ∷ 0 ∷ []) (omega arith))

key_cmp_more : (x y : ℕ) (k l : List ℕ) → key_cmp (x ∷ k) (y ∷ l) ≡ ordering_then (nat_cmp x y) (key_cmp k l)
key_cmp_more x y k l = key_cmp_walk (x ∷ k) (y ∷ l) ∙ ap (ordering_then (nat_cmp x y)) (sym (key_cmp_walk k l))

pub key_word : (c : ℕ) (s : List ℕ) → is_digit c ≡ false → key (c ∷ s) ≡ weight c ∷ key s
key_word c s e = ap (λ b. cond b (1 ∷ key_from (Some (c - 48)) s) (weight c ∷ key s)) e

pub key_digit : (c : ℕ) (s : List ℕ) → is_digit c ≡ true → key (c ∷ s) ≡ 1 ∷ key_from (Some (c - 48)) s
key_digit c s e = ap (λ b. cond b (1 ∷ key_from (Some (c - 48)) s) (weight c ∷ key s)) e

weight_not_one : (c : ℕ) → weight c ≡ 1 → ⊥
weight_not_one c e = grind (arith, nat_tests)

-- numbers that differ decide
decided : (x y : ℕ) (o p : Ordering) → x ≢ y → ordering_then (nat_cmp x y) o ≡ ordering_then (nat_cmp x y) p
decided x y o p h = grind (arith, nat_tests)

-- a key begins with the weight of its string's head
record HasHead (s : List ℕ) : Type 0 where
  rest : List ℕ
  is : key s ≡ head_weight s ∷ rest
  word : starts_word s ≡ true → rest ≡ key (drop 1 s)

has_head : (s : List ℕ) → HasHead s
has_head [] = record { rest = 0 ∷ []; is = refl; word = λ h. absurd (cc) }
has_head (c ∷ s) =
    elim (cases_Bool (is_digit c)) [
      | inl e ↦ record {
        rest = key_from (Some (c - 48)) s;
        is = key_digit c s e ∙ sym (ap (λ b. cond b 1 (weight c) ∷ key_from (Some (c - 48)) s) e);
        word = λ h. let e2 : not (is_digit c) ≡ false = ap not e in absurd (cc);
      }
      | inr e ↦ record {
        rest = key s;
        is = key_word c s e ∙ sym (ap (λ b. cond b 1 (weight c) ∷ key s) e);
        word = λ h. refl;
      }
    ]

word_weight : (s : List ℕ) → starts_word s ≡ true → head_weight s ≢ 1
word_weight [] h e = absurd (cc)
word_weight (c ∷ s) h e =
    elim (cases_Bool (is_digit c)) [
      | inl d ↦ let e2 : not (is_digit c) ≡ false = ap not d in absurd (cc)
      | inr d ↦ weight_not_one c (sym (ap (λ b. cond b 1 (weight c)) d) ∙ e)
    ]

other_weight : (s : List ℕ) → starts_word s ≡ false → head_weight s ≡ 1
other_weight [] h = refl
other_weight (c ∷ s) h =
    elim (cases_Bool (is_digit c)) [
      | inl d ↦ ap (λ b. cond b 1 (weight c)) d
      | inr d ↦ let e2 : not (is_digit c) ≡ true = ap not d in absurd (cc)
    ]

heads : (s t : List ℕ)
    → string_cmp s t ≡ ordering_then (nat_cmp (head_weight s) (head_weight t)) (key_cmp ((has_head s).rest) ((has_head t).rest))
heads s t =
    ap (λ k. key_cmp k (key t)) ((has_head s).is) ∙ ap (λ k. key_cmp (head_weight s ∷ (has_head s).rest) k) ((has_head t).is)
    ∙ key_cmp_more (head_weight s) (head_weight t) ((has_head s).rest) ((has_head t).rest)

-- where a string begins with a character that is no digit, the weights of the heads decide, and
-- else what follows
pub word_step : (s t : List ℕ) → (starts_word s || starts_word t) ≡ true
    → string_cmp s t ≡ ordering_then (nat_cmp (head_weight s) (head_weight t)) (string_cmp (drop 1 s) (drop 1 t))
word_step s t h =
    elim (cases_Bool (starts_word s)) [
      | inl p ↦ elim (cases_Bool (starts_word t)) [
        | inl q ↦ heads s t ∙ ap (λ k. ordering_then (nat_cmp (head_weight s) (head_weight t)) (key_cmp k ((has_head t).rest)))
            ((has_head s).word p)
            ∙ ap (λ k. ordering_then (nat_cmp (head_weight s) (head_weight t)) (key_cmp (key (drop 1 s)) k)) ((has_head t).word q)
        | inr q ↦ heads s t ∙ decided _ _ _ _ (λ e. word_weight s p (e ∙ other_weight t q))
      ]
      | inr p ↦ elim (cases_Bool (starts_word t)) [
        | inl q ↦ heads s t ∙ decided _ _ _ _ (λ e. word_weight t q (sym e ∙ other_weight s p))
        | inr q ↦ let z : (starts_word s || starts_word t) ≡ false = ap (λ b. b || starts_word t) p ∙ q in absurd (cc)
      ]
    ]

-- an ended key is that of the empty string
tail_left : (s l : List ℕ) → key_cmp (key_after s) l ≡ key_cmp (key s) l
tail_left [] l = key_cmp_ended_left l
tail_left (c ∷ s) l = refl

tail_right : (k s : List ℕ) → key_cmp k (key_after s) ≡ key_cmp k (key s)
tail_right k [] = key_cmp_ended_right k
tail_right k (c ∷ s) = refl

prefix_yes : (c : ℕ) (s : List ℕ) → is_digit c ≡ true → prefix_len is_digit (c ∷ s) ≡ suc (prefix_len is_digit s)
prefix_yes c s e = ap (λ b. cond b (1 + prefix_len is_digit s) 0) e ∙ omega arith

prefix_no : (c : ℕ) (s : List ℕ) → is_digit c ≡ false → prefix_len is_digit (c ∷ s) ≡ 0
prefix_no c s e = ap (λ b. cond b (1 + prefix_len is_digit s) 0) e

from_digits : (n : ℕ) (s : List ℕ)
    → key_from (Some n) s ≡ value_from n (take (prefix_len is_digit s) s) ∷ key_after (drop (prefix_len is_digit s) s)
from_digits n [] = refl
from_digits n (c ∷ s) =
    elim (cases_Bool (is_digit c)) [
      | inl e ↦ ap (λ b. cond b (key_from (Some (n * 10 + (c - 48))) s) (n ∷ weight c ∷ key s)) e
          ∙ from_digits (n * 10 + (c - 48)) s
          ∙ sym (ap (λ m. value_from n (take m (c ∷ s)) ∷ key_after (drop m (c ∷ s))) (prefix_yes c s e))
      | inr e ↦ ap (λ b. cond b (key_from (Some (n * 10 + (c - 48))) s) (n ∷ weight c ∷ key s)) e
          ∙ ap (λ k. n ∷ k) (sym (key_word c s e))
          ∙ sym (ap (λ m. value_from n (take m (c ∷ s)) ∷ key_after (drop m (c ∷ s))) (prefix_no c s e))
    ]

number_key : (s : List ℕ) → starts_word s ≡ false
    → key s ≡ 1 ∷ value (take (prefix_len is_digit s) s) ∷ key_after (drop (prefix_len is_digit s) s)
number_key [] h = refl
number_key (c ∷ s) h =
    elim (cases_Bool (is_digit c)) [
      | inl e ↦ key_digit c s e ∙ ap (λ k. 1 ∷ k) (from_digits (c - 48) s)
          ∙ ap (λ m. 1 ∷ value_from m (take (prefix_len is_digit s) s) ∷ key_after (drop (prefix_len is_digit s) s)) (omega arith)
          ∙ sym (ap (λ m. 1 ∷ value (take m (c ∷ s)) ∷ key_after (drop m (c ∷ s))) (prefix_yes c s e))
      | inr e ↦ let e2 : not (is_digit c) ≡ true = ap not e in absurd (cc)
    ]

-- where neither begins so, the values of their digits decide, and else what follows those
pub number_step : (s t : List ℕ) → starts_word s ≡ false → starts_word t ≡ false
    → string_cmp s t ≡ ordering_then (nat_cmp (value (take (prefix_len is_digit s) s)) (value (take (prefix_len is_digit t) t)))
    (string_cmp (drop (prefix_len is_digit s) s) (drop (prefix_len is_digit t) t))
number_step s t p q =
    let v = value (take (prefix_len is_digit s) s) in
    let w = value (take (prefix_len is_digit t) t) in
    let a = drop (prefix_len is_digit s) s in
    let b = drop (prefix_len is_digit t) t in
    ap (λ k. key_cmp k (key t)) (number_key s p) ∙ ap (λ k. key_cmp (1 ∷ v ∷ key_after a) k) (number_key t q)
    ∙ key_cmp_more 1 1 (v ∷ key_after a) (w ∷ key_after b)
    ∙ key_cmp_more v w (key_after a) (key_after b)
    ∙ ap (ordering_then (nat_cmp v w)) (tail_left a (key_after b) ∙ tail_right (key a) b)
