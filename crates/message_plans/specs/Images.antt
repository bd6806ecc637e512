-- What the functions that gather the images of a command's bugs answer, step by step.
use Rattle.std.specs.Prelude.{ℕ, ◌≡◌, Bool, List}
use Rattle.std.specs.List.{list_any}
use Rattle.bug_record.specs.Desk.{Desk}
use Rattle.bug_record.specs.Sets.{has}
use Rattle.bug_record.specs.Images.{numbers_of, bug_in, AreSetsOf}
use Rattle.bug_record.specs.Plans.{AllKnown}
use Rattle.bug_record.specs.declared.bug.Member.{Member}
use Rattle.bug_record.specs.declared.bug.SetImage.{SetImage}

-- whether one of the images has the bug
abbrev pub is_gathered : List SetImage → ℕ → Bool
is_gathered images n = list_any (λ i. has (numbers_of i.members) n) images

-- whether one of the members is one of these bugs
abbrev pub meets : (ℕ → Bool) → List Member → Bool
meets bugs ms = list_any (λ m. bugs m.number) ms

-- these bugs are those of the images
abbrev pub Lists : (ℕ → Bool) → List SetImage → Type 0
Lists bugs images = (n : ℕ) → bugs n ≡ is_gathered images n

-- Images gathered for these bugs besides the old ones: where the old ones are sets of the desk, all
-- are, they show each of the bugs as it is there, and still show the bugs that the old ones showed
-- so.
pub record Gather (d : Desk) (ns : List ℕ) (old new : List SetImage) : Type 0 where
  pub sets : AreSetsOf d old → AreSetsOf d new
  pub known : AreSetsOf d old → AllKnown d new ns
  pub stays : AreSetsOf d old → (m : ℕ) → bug_in old m ≡ d.bug m → bug_in new m ≡ d.bug m

-- the images are sets of the desk, and show each of these bugs as it is there
pub record ShowBugs (d : Desk) (ns : List ℕ) (images : List SetImage) : Type 0 where
  pub sets : AreSetsOf d images
  pub known : AllKnown d images ns
