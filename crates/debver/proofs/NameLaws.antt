-- A text has no wrong byte just where its bytes are those of a name.

use Rattle.std.proofs.Common.{◌≡◌, ℕ, ◌≤◌, List, length, sym, ap, ◌∙◌, not, cond, inl, inr}
use Rattle.std.specs.Prelude.{Some, None, position}
use Rattle.std.proofs.lemmas.Bool.{cases_Bool}
use Rattle.debver.specs.Names.{IsName, wrong_in_name, has_name_start, in_name}
use Rattle.debver.proofs.Places.{all_right, right_all}

pub name_is : (s : List ℕ) → 2 ≤ length s → wrong_in_name s ≡ None → length s ≤ 100 → IsName s
name_is s long h short =
    let first = position (λ c. not (in_name c)) s in
    elim (cases_Bool (has_name_start s)) [
      | inl e ↦
          let none = sym (ap (λ b. cond b first (Some 0)) e) ∙ h in
          record { long = long; start = e; bytes = all_right in_name s none; short = short }
      | inr e ↦ let z = sym (ap (λ b. cond b first (Some 0)) e) ∙ h in absurd (cc)
    ]

pub no_wrong_byte : (s : List ℕ) → IsName s → wrong_in_name s ≡ None
no_wrong_byte s name =
    ap (λ b. cond b (position (λ c. not (in_name c)) s) (Some 0)) name.start ∙ right_all in_name s name.bytes

pub no_name : (s : List ℕ) (place : ℕ) → wrong_in_name s ≡ Some place → IsName s → ⊥
no_name s place h name = let none = no_wrong_byte s name in absurd (cc)
