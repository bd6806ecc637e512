-- Names of packages, by Debian Policy 5.6.1, and the first fault of another text.

use Rattle.std.specs.Prelude.{ℕ, ◌≤◌, ◌==◌, ◌&&◌, ◌||◌, nat_lt, nat_le, Bool, false, not, if◌then◌else◌, List, [], ◌∷◌, length}
use Rattle.std.specs.Prelude.{position, Option, Some, IsTrue}
use Rattle.std.specs.Bool.{then_some}
use Rattle.std.specs.List.{list_all}
use Rattle.std.specs.Option.{option_map, option_or}
use Rattle.debver.specs.Characters.{is_digit}
use Rattle.debver.specs.declared.name.NameFault.{NameFault}
use Rattle.debver.specs.declared.name.NameFault.TheVariants.{Short, BadByte, TooLong}

-- a lower-case letter or a digit
abbrev pub starts_name : ℕ → Bool
starts_name c = (nat_le 97 c && nat_le c 122) || is_digit c

-- these, and `+`, `-` and `.`
abbrev pub in_name : ℕ → Bool
in_name c = starts_name c || c == 43 || c == 45 || c == 46

abbrev pub has_name_start : List ℕ → Bool
has_name_start [] = false
has_name_start (c ∷ s) = starts_name c

-- that a name has 100 bytes at most is this project's own rule
pub record IsName (text : List ℕ) : Type 0 where
  pub long : 2 ≤ length text
  pub start : IsTrue (has_name_start text)
  pub bytes : IsTrue (list_all in_name text)
  pub short : length text ≤ 100

-- the place of the first wrong byte
abbrev pub wrong_in_name : List ℕ → Option ℕ
wrong_in_name text = if has_name_start text then position (λ c. not (in_name c)) text else Some 0

-- the first fault of a text, if it is no name, in this order: this project's own rule
abbrev pub name_fault : List ℕ → Option NameFault
name_fault text =
    option_or (then_some (nat_lt (length text) 2) Short)
    (option_or (option_map BadByte (wrong_in_name text))
    (then_some (nat_lt 100 (length text)) TooLong))
