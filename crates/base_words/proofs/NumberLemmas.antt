-- What number words and bug words give.
use Rattle.std.proofs.Common.{◌≡◌, ℕ, ◌+◌, ◌-◌, ◌*◌, ◌<◌, ◌≤◌, List, length, take, get_or, true, ◌&&◌, Some, None, refl}
use Rattle.std.proofs.Common.{sym, ◌∙◌, inl, inr, arith}
use Rattle.std.specs.Prelude.{nat_le}
use Rattle.std.specs.List.{list_all}
use Rattle.std.specs.Char.{is_ascii_digit, digit_value}
use Rattle.std.specs.Str.Parse.{digits_value}
use Rattle.std.proofs.lemmas.Bool.{cases_Bool, and_parts, and_from, leb-true, le-leb, cond-true, cond-false}
use Rattle.std.proofs.lemmas.Str.Parse.{IsDigitsTest, IsNumeralModel, numerals_by_value, digits_value_short}
use Rattle.std.proofs.lemmas.Str.{digit_value_digit}
use Rattle.std.proofs.lemmas.Int.Digits.{digits_value_more}
use Rattle.std.proofs.lemmas.List.Folds.{list_all_more}
use Rattle.std.proofs.lemmas.List.{length-take-le}
use Rattle.base_words.specs.Numbers.{number_of_digits, IsGoodNumber}

tells_list_all : IsDigitsTest (λ ds. list_all is_ascii_digit ds ≡ true)
tells_list_all = record {
  empty = refl;
  parts = λ c cs h. let p = and_parts (is_ascii_digit c) (list_all is_ascii_digit cs) h in let q =
      and_parts (nat_le 48 c) (nat_le c 57) p.0 in ((leb-true 48 c q.0, leb-true c 57 q.1), p.1);
  more = λ c cs digit h. and_from (is_ascii_digit c) (list_all is_ascii_digit cs)
      (and_from (nat_le 48 c) (nat_le c 57) (le-leb 48 c digit.0) (le-leb c 57 digit.1)) h;
}

pub own : IsNumeralModel (λ ds. list_all is_ascii_digit ds ≡ true) (digits_value 10)
own = numerals_by_value (λ ds. list_all is_ascii_digit ds ≡ true) tells_list_all

pub short_value : (s : List ℕ) → list_all is_ascii_digit s ≡ true → length s ≤ 9 → digits_value 10 s ≤ 999999999
short_value s digits short = let below = digits_value_short own s 9 digits short in omega (arith, below)

-- one more digit of a text of at most nine bytes
pub few-digits : (s : List ℕ) (i : ℕ) → length s ≤ 9 → i < length s → list_all is_ascii_digit (take i s) ≡ true
    → digits_value 10 (take i s) ≤ 99999999
few-digits s i short within digits =
    let len = length-take-le i s (omega arith) in
    let below = digits_value_short own (take i s) 8 digits (omega arith) in omega (arith, below)

pub digits-more : (s : List ℕ) (i number : ℕ) → i < length s → is_ascii_digit (get_or s i 0) ≡ true
    → list_all is_ascii_digit (take i s) ≡ true → number ≡ digits_value 10 (take i s)
    → (list_all is_ascii_digit (take (i + 1) s) ≡ true)
    × (number * 10 + (get_or s i 0 - 48) ≡ digits_value 10 (take (i + 1) s))
digits-more s i number within digit digits value =
    let c = get_or s i 0 in
    let q = and_parts (nat_le 48 c) (nat_le c 57) digit in
    let least = leb-true 48 c q.0 in
    let most = leb-true c 57 q.1 in
    let more : digits_value 10 (take (i + 1) s) ≡ digits_value 10 (take i s) * 10 + digit_value c
    = digits_value_more 10 s i within in
    let own_value : digit_value c + 48 ≡ c = digit_value_digit c (least, most) in (
      list_all_more is_ascii_digit s i 0 within ∙ and_from (list_all is_ascii_digit (take i s)) (is_ascii_digit c) digits digit,
      omega (arith, more, own_value),
    )

pub number_of_digits-good : (s : List ℕ) (n : ℕ) → number_of_digits s ≡ Some n → IsGoodNumber n
number_of_digits-good s n h =
    let v = digits_value 10 s in
    let test = list_all is_ascii_digit s && (nat_le (length s) 9 && nat_le 1 v) in
    elim (cases_Bool test) [
      | inl e ↦
          let p = and_parts (list_all is_ascii_digit s) (nat_le (length s) 9 && nat_le 1 v) e in
          let q = and_parts (nat_le (length s) 9) (nat_le 1 v) p.1 in
          let some : Some v ≡ Some n = sym (cond-true test (Some v) None e) ∙ h in
          let is : v ≡ n = cc in
          let short = leb-true (length s) 9 q.0 in
          let least = leb-true 1 v q.1 in
          let most = short_value s p.0 short in
          record { least = omega arith; most = omega arith }
      | inr e ↦ let none : None ≡ Some n = sym (cond-false test (Some v) None e) ∙ h in absurd (cc)
    ]
