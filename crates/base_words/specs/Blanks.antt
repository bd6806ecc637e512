-- Blanks and control characters.
-- This project's own rule.
use Rattle.std.specs.Prelude.{ℕ, ◌==◌, ◌&&◌, ◌||◌, not, Bool, false, List, [], ◌∷◌}
use Rattle.std.specs.Char.{is_ascii_control}

-- a blank is a space or a tab
abbrev pub is_blank : ℕ → Bool
is_blank c = c == 32 || c == 9

-- an ASCII control character (0 to 31, and 127) other than tab
abbrev pub is_control : ℕ → Bool
is_control c = is_ascii_control c && not (c == 9)

abbrev pub begins_blank : List ℕ → Bool
begins_blank [] = false
begins_blank (c ∷ s) = is_blank c
