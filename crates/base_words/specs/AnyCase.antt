-- Words that are read in any ASCII case.
use Rattle.std.specs.Prelude.{ℕ, Bool, List, map}
use Rattle.std.specs.Char.{to_ascii_lowercase}
use Rattle.std.specs.Str.{bytes_eq}

-- whether the word is this name, in any ASCII case
abbrev pub is_word : List ℕ → List ℕ → Bool
is_word word name = bytes_eq (map to_ascii_lowercase word) (map to_ascii_lowercase name)
