-- What is known of bugs, as tests.
use Rattle.std.specs.Prelude.{ℕ, ◌==◌, Bool, true, false, List, [], ◌∷◌, length, Option, Some, None}
use Rattle.std.specs.List.{list_all}
use Rattle.std.specs.Option.{option_and_then}
use Rattle.std.specs.Str.{bytes_eq}
use Rattle.bug_record.specs.Images.{numbers_of}
use Rattle.bug_record.specs.declared.bug.Member.{Member}
use Rattle.bug_record.specs.declared.bug.SetImage.{SetImage}
use Rattle.store_sets.specs.Plain.{keyed_of}
use Rattle.store_sets.specs.declared.bug_sets.BugSets.{BugSets}

-- the image of the set of the bug n
abbrev pub image_at : BugSets → ℕ → Option SetImage
image_at bugs n = option_and_then (keyed_of bugs).set ((keyed_of bugs).key n)

-- whether there is none
abbrev pub is_no_image : Option SetImage → Bool
is_no_image None = true
is_no_image (Some i) = false

-- whether there is none, or one with one bug
abbrev pub is_small_image : Option SetImage → Bool
is_small_image None = true
is_small_image (Some i) = length i.members == 1

-- whether there is one with these bugs
abbrev pub is_image_of : List ℕ → Option SetImage → Bool
is_image_of numbers None = false
is_image_of numbers (Some i) = bytes_eq (numbers_of i.members) numbers

-- whether the bug n is in no set that is known
abbrev pub is_unknown : BugSets → ℕ → Bool
is_unknown bugs n = is_no_image (image_at bugs n)

-- whether it is in none, or in one by itself
abbrev pub is_alone : BugSets → ℕ → Bool
is_alone bugs n = is_small_image (image_at bugs n)

abbrev pub are_unknown : BugSets → List Member → Bool
are_unknown bugs ms = list_all (λ (m : Member). is_unknown bugs m.number) ms

abbrev pub are_alone : BugSets → List Member → Bool
are_alone bugs ms = list_all (λ (m : Member). is_alone bugs m.number) ms

-- whether the first of these bugs is in a set of these bugs
abbrev pub is_known : BugSets → List Member → Bool
is_known bugs [] = false
is_known bugs (m ∷ ms) = is_image_of (numbers_of (m ∷ ms)) (image_at bugs m.number)
