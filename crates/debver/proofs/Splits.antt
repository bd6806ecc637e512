-- A text round the first character that passes a test, and round the last.

use Rattle.std.proofs.Common.{◌≡◌, ℕ, ◌+◌, ◌-◌, ◌<◌, ◌≤◌, List, ◌∷◌, ◌++◌, length, get_or, take, drop, reverse, arith, Bool, true}
use Rattle.std.proofs.Common.{false, not, inl, inr, sym, ap, ◌∙◌, nat_lt, length-take, length-drop}
use Rattle.std.specs.List.{list_any, position_or_len, suffix_len, before_first, after_first, before_last, after_last}
use Rattle.std.proofs.lemmas.Bool.{cases_Bool, ltb-true, ltb-false, false≢true}
use Rattle.std.proofs.lemmas.List.{get_or-take, get_or-drop, get_or-reverse, drop_more, length-reverse, take-append-drop}
use Rattle.std.proofs.lemmas.List.Folds.{list_any_none}
use Rattle.std.proofs.lemmas.List.Sums.{fails_before_first, passes_at_first, split_at_first, suffix_len-le-length}

-- a text in which some character passes has a first such
first_within : (p : ℕ → Bool) (t : List ℕ) → list_any p t ≡ true → position_or_len p t < length t
first_within p t h =
    elim (cases_Bool (nat_lt (position_or_len p t) (length t))) [
      | inl e ↦ ltb-true (position_or_len p t) (length t) e
      | inr e ↦
          let le = ltb-false (position_or_len p t) (length t) e in
          absurd (false≢true (sym (list_any_none p t (λ k d l. fails_before_first p t k d (omega arith))) ∙ h))
    ]

pub none_before_first : (p : ℕ → Bool) (t : List ℕ) → list_any p (before_first p t) ≡ false
none_before_first p t =
    let n = position_or_len p t in
    list_any_none p (take n t) (λ k d l.
    let within : k < n = omega (arith, length-take n t) in
    ap p (get_or-take n t k d within) ∙ fails_before_first p t k d within)

pub split_first : (p : ℕ → Bool) (t : List ℕ) → list_any p t ≡ true → (c : ℕ) × (p c ≡ true)
    × (t ≡ before_first p t ++ c ∷ after_first p t)
split_first p t h =
    let within = first_within p t h in
    (get_or t (position_or_len p t) 0, passes_at_first p t 0 within, split_at_first p t 0 within)

-- how many characters follow the last one that passes
abbrev after : (ℕ → Bool) → List ℕ → ℕ
after p t = suffix_len (λ x. not (p x)) t

fails_late : (p : ℕ → Bool) (t : List ℕ) (i d : ℕ) → i < length t → length t ≤ i + after p t → p (get_or t i d) ≡ false
fails_late p t i d a b =
    let j = length t - 1 - i in
    let back : length t - 1 - j ≡ i = omega arith in
    sym (ap p (get_or-reverse t j d (omega arith)) ∙ ap (λ k. p (get_or t k d)) back)
    ∙ fails_before_first p (reverse t) j d (omega arith)

last_within : (p : ℕ → Bool) (t : List ℕ) → list_any p t ≡ true → after p t < length t
last_within p t h =
    elim (cases_Bool (nat_lt (after p t) (length t))) [
      | inl e ↦ ltb-true (after p t) (length t) e
      | inr e ↦
          let le = ltb-false (after p t) (length t) e in
          absurd (false≢true (sym (list_any_none p t (λ k d l. fails_late p t k d l (omega arith))) ∙ h))
    ]

pub none_after_last : (p : ℕ → Bool) (t : List ℕ) → list_any p (after_last p t) ≡ false
none_after_last p t =
    let n = length t - after p t in
    let le = suffix_len-le-length (λ x. not (p x)) t in
    list_any_none p (drop n t) (λ k d l.
    let within : n + k < length t = omega (arith, length-drop n t) in
    ap p (get_or-drop n t k d) ∙ fails_late p t (n + k) d within (omega arith))

pub split_last : (p : ℕ → Bool) (t : List ℕ) → list_any p t ≡ true → (c : ℕ) × (p c ≡ true)
    × (t ≡ before_last p t ++ c ∷ after_last p t)
split_last p t h =
    let n = length t - after p t - 1 in
    let within = last_within p t h in
    let at : length t - 1 - after p t ≡ n = omega arith in
    let next : n + 1 ≡ length t - after p t = omega arith in
    let passes : p (get_or t n 0) ≡ true =
    sym (ap p (get_or-reverse t (after p t) 0 within) ∙ ap (λ k. p (get_or t k 0)) at)
    ∙ passes_at_first p (reverse t) 0 (omega (arith, length-reverse t)) in (
      get_or t n 0,
      passes,
      sym (take-append-drop n t) ∙ ap (λ l. take n t ++ l) (drop_more t n 0 (omega arith))
          ∙ ap (λ k. take n t ++ get_or t n 0 ∷ drop k t) next,
    )
