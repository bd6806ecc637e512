-- The order of two strings of a version, by Debian Policy 5.6.12.
-- A string has a key, which is a list of numbers of any size.

use Rattle.std.specs.Prelude.{ℕ, ◌+◌, ◌-◌, ◌*◌, ◌==◌, suc, zero, Bool, false, if◌then◌else◌, List, [], ◌∷◌, length, Option, Some}
use Rattle.std.specs.Prelude.{None}
use Rattle.std.specs.Ordering.{nat_cmp}
use Rattle.std.specs.Cmp.Lexicographic.{slice_cmp}
use Rattle.std.specs.declared.cmp.Ordering.{Ordering}
use Rattle.debver.specs.Characters.{is_digit, is_letter}

-- the place of a character in the order: the tilde, then (at 1) the end of a non-digit part, then
-- letters, then all others
abbrev pub weight : ℕ → ℕ
weight c = if c == 126 then 0 else (if is_letter c then 2 + c else 300 + c)

-- the value of digits that follow digits of the value n
abbrev pub value_from : ℕ → List ℕ → ℕ
value_from n [] = n
value_from n (c ∷ s) = value_from (n * 10 + (c - 48)) s

-- the number that digits write; no digits count as zero
abbrev pub value : List ℕ → ℕ
value digits = value_from 0 digits

-- the key of what is left of a string: None within a non-digit part, Some n within a digit part
-- whose digits so far have the value n
abbrev pub key_from : Option ℕ → List ℕ → List ℕ
key_from None [] = 1 ∷ 0 ∷ []
key_from None (c ∷ s) = if is_digit c then 1 ∷ key_from (Some (c - 48)) s else weight c ∷ key_from None s
key_from (Some n) [] = n ∷ []
key_from (Some n) (c ∷ s) = if is_digit c then key_from (Some (n * 10 + (c - 48))) s else n ∷ weight c ∷ key_from None s

-- for each non-digit part and the digit part after it: the weights of the characters, then 1, then
-- the value of the digits
abbrev pub key : List ℕ → List ℕ
key s = key_from None s

-- the first n numbers of a key that is continued by 1, 0, 1, 0 and so on: empty parts without end
abbrev pub first_numbers : ℕ → List ℕ → List ℕ
first_numbers zero k = []
first_numbers (suc n) [] = 1 ∷ first_numbers n (0 ∷ [])
first_numbers (suc n) (x ∷ k) = x ∷ first_numbers n k

-- keys compare by the first place where they differ; from two places past both ends on there is no
-- further one
abbrev pub key_cmp : List ℕ → List ℕ → Ordering
key_cmp k l = slice_cmp nat_cmp (first_numbers (length k + length l + 2) k) (first_numbers (length k + length l + 2) l)

-- the order of two upstream parts, or of two revisions
abbrev pub string_cmp : List ℕ → List ℕ → Ordering
string_cmp s t = key_cmp (key s) (key t)

-- the string begins with a digit
abbrev pub starts_digit : List ℕ → Bool
starts_digit [] = false
starts_digit (c ∷ s) = is_digit c

-- the key of what follows a digit part, if something does
abbrev pub key_after : List ℕ → List ℕ
key_after [] = []
key_after (c ∷ s) = key (c ∷ s)
