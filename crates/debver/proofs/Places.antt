-- There is no first wrong character just where each character is right.

use Rattle.std.proofs.Common.{◌≡◌, ℕ, List, length, arith, Bool, true, not, ◌≤◌, inl, inr, sym, ap, ◌∙◌, cond, nat_lt}
use Rattle.std.specs.Prelude.{Some, None, position}
use Rattle.std.specs.List.{list_all, position_or_len}
use Rattle.std.proofs.lemmas.Bool.{cases_Bool, ltb-true, ltb-false, not-false, not_from_true, false≢true}
use Rattle.std.proofs.lemmas.List.Sums.{fails_before_first, passes_at_first, AllPass-from_list_all, list_all-from_AllPass}

no_place : (n m : ℕ) → cond (nat_lt n m) (Some n) None ≡ None → m ≤ n
no_place n m h =
    elim (cases_Bool (nat_lt n m)) [
      | inl e ↦ let z = sym (ap (λ b. cond b (Some n) None) e) ∙ h in absurd (cc)
      | inr e ↦ ltb-false n m e
    ]

pub all_right : (p : ℕ → Bool) (s : List ℕ) → position (λ c. not (p c)) s ≡ None → list_all p s ≡ true
all_right p s h =
    let wrong : ℕ → Bool = λ c. not (p c) in
    let le = no_place (position_or_len wrong s) (length s) h in
    list_all-from_AllPass p s (λ k d l. not-false _ (fails_before_first wrong s k d (omega arith)))

pub right_all : (p : ℕ → Bool) (s : List ℕ) → list_all p s ≡ true → position (λ c. not (p c)) s ≡ None
right_all p s h =
    let wrong : ℕ → Bool = λ c. not (p c) in
    elim (cases_Bool (nat_lt (position_or_len wrong s) (length s))) [
      | inl e ↦
          let within = ltb-true (position_or_len wrong s) (length s) e in
          let right = not_from_true _ (AllPass-from_list_all p s h (position_or_len wrong s) 0 within) in
          absurd (false≢true (sym right ∙ passes_at_first wrong s 0 within))
      | inr e ↦ ap (λ b. cond b (Some (position_or_len wrong s)) None) e
    ]
