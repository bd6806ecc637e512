-- Words that only the code's walk over two strings cites.

use Rattle.std.specs.Prelude.{ℕ, ◌==◌, Bool, false, not, if◌then◌else◌, List, [], ◌∷◌}
use Rattle.debver.specs.Characters.{is_digit}
use Rattle.debver.specs.Keys.{weight}

-- the weight of a string's first character, or 1 where its non-digit part has ended
abbrev pub head_weight : List ℕ → ℕ
head_weight [] = 1
head_weight (c ∷ s) = if is_digit c then 1 else weight c

-- the string begins with a character that is no digit
abbrev pub starts_word : List ℕ → Bool
starts_word [] = false
starts_word (c ∷ s) = not (is_digit c)

abbrev pub is_zero : ℕ → Bool
is_zero c = c == 48
