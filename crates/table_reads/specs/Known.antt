-- The images of sets that are known.
-- This project's own rule.
use Rattle.std.specs.Prelude.{ℕ, ◌≡◌, ◌⊎◌, Option, Some, None}
use Rattle.std.specs.Option.{option_and_then}
use Rattle.bug_record.specs.declared.bug.SetImage.{SetImage}
use Rattle.bug_record.specs.declared.command.Change.{Change}
use Rattle.store_keys.specs.Keys.{key_of, set_after}
use Rattle.store_sets.specs.Plain.{keyed_of}
use Rattle.table_reads.specs.declared.known.KnownSets.{KnownSets}

-- the key of each bug whose set is known
abbrev pub known_key : KnownSets → ℕ → Option ℕ
known_key known = (keyed_of known.bugs).key

-- the image that is known of each key
abbrev pub known_set : KnownSets → ℕ → Option SetImage
known_set known = (keyed_of known.bugs).set

-- each image of the first is one of the second
abbrev pub IsPartOf : (ℕ → Option SetImage) → (ℕ → Option SetImage) → Type 0
IsPartOf a b = (k : ℕ) (i : SetImage) → a k ≡ Some i → b k ≡ Some i

-- each image after is one from before, or this one, whose key is the number of its first bug
abbrev pub IsLearnt : ℕ → SetImage → (ℕ → Option SetImage) → (ℕ → Option SetImage) → Type 0
IsLearnt key image old new = (k : ℕ) (i : SetImage) → new k ≡ Some i
    → (old k ≡ Some i) ⊎ ((key ≡ k) × (key_of image ≡ k) × (image ≡ i))

-- the images that are known after the change of a line, if there is one
abbrev pub followed : Option Change → (ℕ → Option SetImage) → ℕ → Option SetImage
followed None known = known
followed (Some change) known = set_after change.images known

-- the image is the one that is known of the bug n
abbrev pub IsKnownOf : KnownSets → ℕ → SetImage → Type 0
IsKnownOf known n i = option_and_then (known_set known) (known_key known n) ≡ Some i
