-- Images of sets of merged bugs, and what they say of a desk.
use Rattle.std.specs.Prelude.{ℕ, ◌≡◌, ◌≢◌, ◌==◌, true, List, [], ◌∷◌, Option, Some, None, option_map, map, if◌then◌else◌, ⊤}
use Rattle.std.specs.List.{find}
use Rattle.std.specs.Option.{option_or}
use Rattle.base_sequences.specs.Sets.{has, Each}
use Rattle.bug_record.specs.Desk.{Desk, IsSound}
use Rattle.bug_record.specs.declared.bug.Bug.{Bug}
use Rattle.bug_record.specs.declared.bug.Member.{Member}
use Rattle.bug_record.specs.declared.bug.SetImage.{SetImage}
use Rattle.bug_record.specs.declared.command.Change.{Change}

-- the numbers of the members
abbrev pub numbers_of : List Member → List ℕ
numbers_of ms = map (λ m. m.number) ms

-- the first image that has the bug n
abbrev pub image_with : List SetImage → ℕ → Option SetImage
image_with is n = find (λ i. has (numbers_of i.members) n) is

-- the member n
abbrev pub member_at : List Member → ℕ → Option Member
member_at [] n = None
member_at (m ∷ ms) n = if m.number == n then Some m else member_at ms n

-- a member as a bug with a whole record
abbrev pub bug_of : SetImage → Member → Bug
bug_of i m = record { title = m.title; submitter = m.submitter; shared = i.shared; merged = numbers_of i.members }

-- the bug n as the images show it
abbrev pub bug_in : List SetImage → ℕ → Option Bug
bug_in [] n = None
bug_in (i ∷ is) n = option_or (option_map (bug_of i) (member_at i.members n)) (bug_in is n)

-- no bug is in two images
abbrev pub AreApart : List SetImage → Type 0
AreApart [] = ⊤
AreApart (i ∷ is) = ((n : ℕ) → has (numbers_of i.members) n ≡ true → bug_in is n ≡ None) × AreApart is

abbrev pub HasMember : SetImage → Type 0
HasMember i = i.members ≢ []

-- the image is a set of the desk: each member is a bug with the shared fields, merged with the
-- members
abbrev pub IsSetOf : Desk → SetImage → Type 0
IsSetOf d i = Each (λ m. d.bug m.number ≡ Some (bug_of i m)) i.members

abbrev pub AreSetsOf : Desk → List SetImage → Type 0
AreSetsOf d is = Each (IsSetOf d) is

-- The desk after a change: the numbers of each image get its fields and become one set, and all
-- else stays.
abbrev pub put : Desk → Change → Desk
put d c = record { bug = λ n. option_or (bug_in c.images n) (d.bug n); tree = d.tree; next = c.next }

-- the images cover whole sets: with a bug of the desk, all that are merged with it
abbrev pub CoverSets : Desk → List SetImage → Type 0
CoverSets d is = (n m : ℕ) (b : Bug) → d.bug n ≡ Some b → bug_in is n ≢ None → has b.merged m ≡ true → bug_in is m ≢ None

-- The change may be made on the desk: it covers whole sets, and leaves a sound desk.
pub record FitsDesk (d : Desk) (c : Change) : Type 0 where
  pub whole : CoverSets d c.images
  pub sound : IsSound (put d c)
