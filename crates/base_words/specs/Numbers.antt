-- Number words: an optional `#`, then one to nine ASCII digits of a value of at least 1 (the BTS
-- page 'control and manipulation'; the limits are this project's own rule).
use Rattle.std.specs.Prelude.{ℕ, ◌≤◌, ◌==◌, ◌&&◌, nat_le, if◌then◌else◌, List, [], ◌∷◌, length, Option, Some, None}
use Rattle.std.specs.List.{list_all}
use Rattle.std.specs.Char.{is_ascii_digit}
use Rattle.std.specs.Str.Parse.{digits_value}
use Rattle.base_words.specs.declared.named.TheConstants.{LARGEST_NUMBER}

-- the word without one `#` at its beginning
abbrev pub without_hash : List ℕ → List ℕ
without_hash [] = []
without_hash (c ∷ s) = if c == 35 then s else c ∷ s

-- the value of one to nine ASCII digits, where it is at least 1
abbrev pub number_of_digits : List ℕ → Option ℕ
number_of_digits digits =
    if list_all is_ascii_digit digits && (nat_le (length digits) 9 && nat_le 1 (digits_value 10 digits))
    then Some (digits_value 10 digits)
    else None

-- the number of a number word
abbrev pub number_of_word : List ℕ → Option ℕ
number_of_word word = number_of_digits (without_hash word)

-- from 1 to 999,999,999
pub record IsGoodNumber (n : ℕ) : Type 0 where
  pub least : 1 ≤ n
  pub most : n ≤ LARGEST_NUMBER
