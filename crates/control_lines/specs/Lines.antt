-- The lines of a text.
-- This project's own rule.
use Rattle.std.specs.Prelude.{ℕ, Bool, ◌==◌, List, [], ◌∷◌, map, if◌then◌else◌}
use Rattle.std.specs.List.{slice_split}

-- a line without one carriage return at its end
abbrev pub without_return : List ℕ → List ℕ
without_return [] = []
without_return (c ∷ []) = if c == 13 then [] else c ∷ []
without_return (c ∷ d ∷ s) = c ∷ without_return (d ∷ s)

abbrev pub is_feed : ℕ → Bool
is_feed c = c == 10

-- what follows the last line feed is a line if it isn't empty
abbrev pub last_line : List ℕ → List (List ℕ)
last_line [] = []
last_line (c ∷ s) = (c ∷ s) ∷ []

abbrev pub without_empty_last : List (List ℕ) → List (List ℕ)
without_empty_last [] = []
without_empty_last (piece ∷ []) = last_line piece
without_empty_last (piece ∷ next ∷ more) = piece ∷ without_empty_last (next ∷ more)

-- the pieces between the line feeds, without an empty last one
abbrev pub raw_lines : List ℕ → List (List ℕ)
raw_lines text = without_empty_last (slice_split is_feed text)

-- A text is split at line feeds; a carriage return before one, or at the end, is dropped.
unfoldable pub lines_of : List ℕ → List (List ℕ)
lines_of text = map without_return (raw_lines text)
