-- What the walk learns from one comparison.

use Rattle.std.proofs.Common.{◌≡◌, ℕ, ◌+◌, List, [], ◌∷◌, length, take, drop, refl, ap, sym, ◌∙◌, arith, true, false, ◌||◌, inl}
use Rattle.std.proofs.Common.{inr}
use Rattle.std.specs.List.{prefix_len}
use Rattle.std.specs.Ordering.{nat_cmp, ordering_then, is_ne}
use Rattle.std.specs.declared.cmp.Ordering.{Ordering}
use Rattle.std.specs.declared.cmp.Ordering.TheVariants.{Less, Equal, Greater}
use Rattle.std.proofs.lemmas.Bool.{cases_Bool}
use Rattle.debver.specs.Characters.{is_digit}
use Rattle.debver.specs.Keys.{string_cmp, value}
use Rattle.debver.specs.Walk.{head_weight, starts_word}
use Rattle.debver.proofs.KeySteps.{word_step, number_step}

then_stops : (o p : Ordering) → is_ne o ≡ true → ordering_then o p ≡ o
then_stops Less p h = refl
then_stops Equal p h = absurd (cc)
then_stops Greater p h = refl

then_goes_on : (o p : Ordering) → is_ne o ≡ false → ordering_then o p ≡ p
then_goes_on Less p h = absurd (cc)
then_goes_on Equal p h = refl
then_goes_on Greater p h = absurd (cc)

pub word_stops : (s t : List ℕ) → (starts_word s || starts_word t) ≡ true → is_ne (nat_cmp (head_weight s) (head_weight t)) ≡ true
    → string_cmp s t ≡ nat_cmp (head_weight s) (head_weight t)
word_stops s t h e = word_step s t h ∙ then_stops _ _ e

pub word_goes_on : (s t : List ℕ) → (starts_word s || starts_word t) ≡ true
    → is_ne (nat_cmp (head_weight s) (head_weight t)) ≡ false → string_cmp s t ≡ string_cmp (drop 1 s) (drop 1 t)
word_goes_on s t h e = word_step s t h ∙ then_goes_on _ _ e

neither : (s t : List ℕ) → (starts_word s || starts_word t) ≡ false → (starts_word s ≡ false) × (starts_word t ≡ false)
neither s t h =
    elim (cases_Bool (starts_word s)) [
      | inl p ↦ let z : (starts_word s || starts_word t) ≡ true = ap (λ b. b || starts_word t) p in absurd (cc)
      | inr p ↦ (p, sym (ap (λ b. b || starts_word t) p) ∙ h)
    ]

pub number_stops : (s t : List ℕ) → (starts_word s || starts_word t) ≡ false
    → is_ne (nat_cmp (value (take (prefix_len is_digit s) s)) (value (take (prefix_len is_digit t) t))) ≡ true
    → string_cmp s t ≡ nat_cmp (value (take (prefix_len is_digit s) s)) (value (take (prefix_len is_digit t) t))
number_stops s t h e = let n = neither s t h in number_step s t n.0 n.1 ∙ then_stops _ _ e

pub number_goes_on : (s t : List ℕ) → (starts_word s || starts_word t) ≡ false
    → is_ne (nat_cmp (value (take (prefix_len is_digit s) s)) (value (take (prefix_len is_digit t) t))) ≡ false
    → string_cmp s t ≡ string_cmp (drop (prefix_len is_digit s) s) (drop (prefix_len is_digit t) t)
number_goes_on s t h e = let n = neither s t h in number_step s t n.0 n.1 ∙ then_goes_on _ _ e

pub ended : (s t : List ℕ) → length s + length t ≡ 0 → string_cmp s t ≡ Equal
ended [] [] h = refl
ended [] (d ∷ t) h = absurd (omega arith)
ended (c ∷ s) t h = absurd (omega arith)
