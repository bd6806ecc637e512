-- Sets of which none stays the same bugs.
use Rattle.std.specs.Prelude.{ℕ, ◌≡◌, ◌≢◌, Bool, true, not, ◌&&◌, List, [], ◌∷◌, ◌++◌}
use Rattle.std.specs.Str.{bytes_eq}
use Rattle.bug_record.specs.Sets.{has, Each, IsAscending}
use Rattle.bug_record.specs.Images.{numbers_of}
use Rattle.bug_record.specs.declared.bug.SetImage.{SetImage}

-- whether the image has other bugs than each of these
abbrev pub is_unlike : SetImage → List SetImage → Bool
is_unlike i [] = true
is_unlike i (j ∷ js) = not (bytes_eq (numbers_of i.members) (numbers_of j.members)) && is_unlike i js

-- each old image has other bugs than each new one
abbrev pub IsParted : List SetImage → List SetImage → Type 0
IsParted old new = Each (λ i. Each (λ j. numbers_of i.members ≢ numbers_of j.members) new) old

-- the numbers of all members
abbrev pub numbers_in : List SetImage → List ℕ
numbers_in [] = []
numbers_in (i ∷ is) = numbers_of i.members ++ numbers_in is

-- all of the numbers ns are among the numbers ms
abbrev pub AreAmong : List ℕ → List ℕ → Type 0
AreAmong ns ms = (n : ℕ) → has ns n ≡ true → has ms n ≡ true

-- The whole set ascends, and has all bugs of the parts.
pub record HasAll (whole : SetImage) (parts : List SetImage) : Type 0 where
  pub ascending : IsAscending (numbers_of whole.members)
  pub numbers : AreAmong (numbers_in parts) (numbers_of whole.members)
