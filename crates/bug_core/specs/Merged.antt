-- What one pass takes that merges two lists of members, both ascending.
use Rattle.std.specs.Prelude.{ℕ, Bool, false, ◌==◌, nat_lt, List, [], ◌∷◌, if◌then◌else◌}
use Rattle.bug_record.specs.declared.bug.Member.{Member}

-- the members in front whose numbers are below n, and the others
abbrev pub front_below : ℕ → List Member → List Member
front_below n [] = []
front_below n (m ∷ ms) = if nat_lt m.number n then m ∷ front_below n ms else []

abbrev pub rest_from : ℕ → List Member → List Member
rest_from n [] = []
rest_from n (m ∷ ms) = if nat_lt m.number n then rest_from n ms else m ∷ ms

-- whether the first member has the number n
abbrev pub starts_with : List Member → ℕ → Bool
starts_with [] n = false
starts_with (m ∷ ms) n = m.number == n

-- the member x alone, or nothing where the first of these has its number
abbrev pub unless_first : List Member → Member → List Member
unless_first ms x = if starts_with ms x.number then [] else x ∷ []
