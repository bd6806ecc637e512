-- Texts of digits: those that are not read, and the numbers of the others.
use Rattle.std.proofs.Common.{◌≡◌, ℕ, ◌<◌, ◌^◌, List, [], ◌∷◌, true, ◌&&◌, Some, None, Option, Err, Result, refl}
use Rattle.std.proofs.Common.{sym, ◌∙◌, inl, inr, arith, subst}
use Rattle.std.specs.Prelude.{nat_le}
use Rattle.std.specs.List.{list_all}
use Rattle.std.specs.Char.{is_ascii_digit}
use Rattle.std.specs.Str.Parse.{digits_value, ParsesUnsigned}
use Rattle.std.proofs.lemmas.Bool.{cases_Bool, and_parts, leb-true, cond-true, cond-false}
use Rattle.std.proofs.lemmas.Str.Parse.{parse_gives}
use Rattle.base_words.proofs.NumberLemmas.{own}
use Rattle.program_options.specs.Numbers.{is_number, number_in, number_or, IsWithin}
use Rattle.program_options.specs.Cut.{Text}

-- digits that are not parsed are past every range
pub number_in-unparsed : {E : Type 0} (least most : ℕ) (s : List ℕ) (r : Result ℕ E) (e : E) → ParsesUnsigned 64 10 s r → r ≡ Err e
    → list_all is_ascii_digit s ≡ true → most < 2 ^ 64 → number_in least most s ≡ None
unfolding number_in
number_in-unparsed least most [] r e h is digits below = refl
number_in-unparsed least most (c ∷ s) r e h is digits below =
    let v = digits_value 10 (c ∷ s) in
    let test = is_number (c ∷ s) && (nat_le least v && nat_le v most) in
    elim (cases_Bool test) [
      | inl within ↦
          let p = and_parts (is_number (c ∷ s)) (nat_le least v && nat_le v most) within in
          let q = and_parts (nat_le least v) (nat_le v most) p.1 in
          let high = leb-true v most q.1 in
          let good = parse_gives own 64 (c ∷ s) r h digits (omega arith) (omega (arith, high, below)) in
          absurd (cc)
      | inr other ↦ cond-false test (Some v) None other
    ]

-- a number in a range lies within it
pub number_in-within : (least most n : ℕ) (s : List ℕ) → number_in least most s ≡ Some n → IsWithin least most n
unfolding number_in
number_in-within least most n s h =
    let v = digits_value 10 s in
    let test = is_number s && (nat_le least v && nat_le v most) in
    elim (cases_Bool test) [
      | inl within ↦
          let some : Some v ≡ Some n = sym (cond-true test (Some v) None within) ∙ h in
          let is : v ≡ n = cc in
          let p = and_parts (is_number s) (nat_le least v && nat_le v most) within in
          let q = and_parts (nat_le least v) (nat_le v most) p.1 in
          let low = leb-true least v q.0 in
          let high = leb-true v most q.1 in
          record { low = omega arith; high = omega arith }
      | inr other ↦ let none : None ≡ Some n = sym (cond-false test (Some v) None other) ∙ h in absurd (cc)
    ]

pub number_or-within : (usual least most n : ℕ) (value : Option Text) → IsWithin least most usual → number_or usual least most value ≡ Some n
    → IsWithin least most n
number_or-within usual least most n None within h = let is : usual ≡ n = cc in subst (IsWithin least most) is within
number_or-within usual least most n (Some text) within h = number_in-within least most n text h
