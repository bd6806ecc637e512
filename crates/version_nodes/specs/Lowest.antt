-- Where the nodes of a package begin.
-- This project's own rule.
use Rattle.std.specs.Prelude.{ℕ, suc, zero, List, [], ◌∷◌}

-- so many tildes
abbrev pub tildes : ℕ → List ℕ
tildes zero = []
tildes (suc n) = 126 ∷ tildes n

-- the version that comes first in the total order: a tilde precedes all else, and a version has 100
-- bytes at most
abbrev pub lowest_version : List ℕ
lowest_version = tildes 100
