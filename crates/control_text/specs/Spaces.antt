-- The parts of a spelling.
use Rattle.std.specs.Prelude.{ℕ, List, [], ◌∷◌, ◌++◌}

-- each word after a space
abbrev pub after_spaces : List (List ℕ) → List ℕ
after_spaces [] = []
after_spaces (word ∷ more) = 32 ∷ (word ++ after_spaces more)
