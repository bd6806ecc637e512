-- Numbers as values of options.
-- This project's own rule.
use Rattle.std.specs.Prelude.{ℕ, ◌≤◌, ◌&&◌, Bool, nat_lt, nat_le, if◌then◌else◌, length}
use Rattle.std.specs.Prelude.{Option, Some, None}
use Rattle.std.specs.List.{list_all}
use Rattle.std.specs.Char.{is_ascii_digit}
use Rattle.std.specs.Str.Parse.{digits_value}
use Rattle.program_options.specs.Cut.{Text}

-- one ASCII digit or more
abbrev pub is_number : Text → Bool
is_number text = nat_lt 0 (length text) && list_all is_ascii_digit text

-- the number that ASCII digits write, where it lies in the range
unfoldable pub number_in : ℕ → ℕ → Text → Option ℕ
number_in least most text =
    let n = digits_value 10 text in
    if is_number text && (nat_le least n && nat_le n most) then Some n else None

-- the same of a value that may be left out, and stands for `usual` then
abbrev pub number_or : ℕ → ℕ → ℕ → Option Text → Option ℕ
number_or usual least most None = Some usual
number_or usual least most (Some text) = number_in least most text

pub record IsWithin (least most n : ℕ) : Type 0 where
  pub low : least ≤ n
  pub high : n ≤ most
