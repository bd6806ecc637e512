-- The places that images give to their bugs, and which of these a map has.
use Rattle.std.specs.Prelude.{ℕ, ◌≡◌, ◌==◌, Bool, true, not, List, [], ◌∷◌, ◌++◌, Option, Some, None, is_some, if◌then◌else◌}
use Rattle.std.specs.Option.{option_or}
use Rattle.std.specs.Prelude.{nat_eq}
use Rattle.std.specs.HashMap.{HashMap, get}
use Rattle.bug_record.specs.Sets.{has}
use Rattle.bug_record.specs.Images.{numbers_of}
use Rattle.bug_record.specs.declared.bug.SetImage.{SetImage}
use Rattle.store_keys.specs.Keys.{key_of}
use Rattle.store_sets.specs.declared.places.Place.{Place}
use Rattle.store_sets.specs.declared.places.Place.TheVariants.{First, After}

-- the place of the bug n, which the image has
abbrev pub place_of : SetImage → ℕ → Place
place_of i n = if key_of i == n then First i else After (key_of i)

-- the place of the bug n in the first image that has it
abbrev pub place_in : List SetImage → ℕ → Option Place
place_in [] n = None
place_in (i ∷ is) n = if has (numbers_of i.members) n then Some (place_of i n) else place_in is n

-- the numbers of all members
abbrev pub numbers_in : List SetImage → List ℕ
numbers_in [] = []
numbers_in (i ∷ is) = numbers_of i.members ++ numbers_in is

-- whether a bug of this number has a place
abbrev pub is_there : {S : Type 0} → HashMap ℕ Place S → ℕ → Bool
is_there bugs n = is_some (get nat_eq bugs n)

abbrev pub is_fresh : {S : Type 0} → HashMap ℕ Place S → ℕ → Bool
is_fresh bugs n = not (is_there bugs n)

-- each of these bugs has a place
abbrev pub HavePlaces : {S : Type 0} → HashMap ℕ Place S → List ℕ → Type 0
HavePlaces bugs ns = (n : ℕ) → has ns n ≡ true → is_there bugs n ≡ true

-- the image has the bugs of the set whose image is kept under its key, in the same order
abbrev pub KeepsSet : (ℕ → Option SetImage) → SetImage → Type 0
KeepsSet set j = (i : SetImage) × (set (key_of j) ≡ Some i) × (numbers_of i.members ≡ numbers_of j.members)

-- the image is put by being put at this number alone
abbrev pub IsOnlyPlace : {S : Type 0} → HashMap ℕ Place S → SetImage → ℕ → Type 0
IsOnlyPlace bugs j key =
    (n : ℕ) → option_or (place_in (j ∷ []) n) (get nat_eq bugs n) ≡ (if key == n then Some (First j) else get nat_eq bugs n)
