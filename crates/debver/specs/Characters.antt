-- Classes of characters, by their ASCII codes.

use Rattle.std.specs.Prelude.{ℕ, ◌==◌, Bool}
pub use Rattle.std.specs.Char.{is_ascii_digit as is_digit, is_ascii_alphabetic as is_letter}

abbrev pub is_colon : ℕ → Bool
is_colon c = c == 58

abbrev pub is_hyphen : ℕ → Bool
is_hyphen c = c == 45
