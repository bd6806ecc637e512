-- A desk kept by sets: each bug has the key of its set, and each key the image of its set.
-- What keeps them, a map in memory or tables, is seen as two functions.
use Rattle.std.specs.Prelude.{ℕ, ◌≡◌, ◌==◌, Bool, true, false, List, [], ◌∷◌, Option, Some, None, option_map, if◌then◌else◌}
use Rattle.std.specs.Option.{option_or, option_and_then}
use Rattle.version_nodes.specs.Trees.{Ancestry, no_nodes}
use Rattle.bug_record.specs.Sets.{has}
use Rattle.bug_record.specs.Desk.{Desk}
use Rattle.bug_record.specs.Images.{numbers_of, image_with, member_at, bug_of}
use Rattle.bug_record.specs.declared.bug.Bug.{Bug}
use Rattle.bug_record.specs.declared.bug.Member.{Member}
use Rattle.bug_record.specs.declared.bug.SetImage.{SetImage}

-- Bugs by their sets: the key of each bug, and the image of each key.
pub record Keyed : Type 0 where
  pub key : ℕ → Option ℕ
  pub set : ℕ → Option SetImage

-- no bug is there
abbrev pub no_bugs : Keyed
no_bugs = record { key = λ n. None; set = λ k. None }

-- a desk with no bug and no node
abbrev pub empty_desk : ℕ → Desk
empty_desk first = record { bug = λ n. None; tree = no_nodes; next = first }

-- the number of the first member; 0 where there is none
abbrev pub first_number : List Member → ℕ
first_number [] = 0
first_number (m ∷ ms) = m.number

-- the key of the image's set
abbrev pub key_of : SetImage → ℕ
key_of i = first_number i.members

-- the bug n, as the image of its set shows it
abbrev pub keyed_bug : (ℕ → Option ℕ) → (ℕ → Option SetImage) → ℕ → Option Bug
keyed_bug key set n = option_and_then (λ i. option_map (bug_of i) (member_at i.members n)) (option_and_then set (key n))

-- the desk of these keys and images
abbrev pub keyed_desk : (ℕ → Option ℕ) → (ℕ → Option SetImage) → Ancestry → ℕ → Desk
keyed_desk key set tree next = record { bug = keyed_bug key set; tree = tree; next = next }

-- whether there is an image that has the bug n
abbrev pub has_bug : Option SetImage → ℕ → Bool
has_bug None n = false
has_bug (Some i) n = has (numbers_of i.members) n

-- Keys and images fit together.
pub record IsKeyed (key : ℕ → Option ℕ) (set : ℕ → Option SetImage) : Type 0 where
  -- a bug is in the set of its key
  pub found : (n k : ℕ) → key n ≡ Some k → has_bug (set k) n ≡ true
  -- a bug of a set has the key of that set
  pub known : (n k : ℕ) (i : SetImage) → set k ≡ Some i → has (numbers_of i.members) n ≡ true → key n ≡ Some k
  -- the key of a set is the number of one of its bugs, whichever
  pub own : (k : ℕ) (i : SetImage) → set k ≡ Some i → has (numbers_of i.members) k ≡ true

-- The keys after images are put: a bug that they have gets the key of its image.
abbrev pub key_after : List SetImage → (ℕ → Option ℕ) → ℕ → Option ℕ
key_after is key n = option_or (option_map key_of (image_with is n)) (key n)

-- the image of the key k where the images that are put have the bug k, or not
abbrev pub image_at_key : ℕ → Option SetImage → Option SetImage → Option SetImage
image_at_key k old None = old
image_at_key k old (Some i) = if key_of i == k then Some i else None

-- The sets after images are put: a bug that they have is a key where it is the first of its image,
-- and no key any more where it isn't.
abbrev pub set_after : List SetImage → (ℕ → Option SetImage) → ℕ → Option SetImage
set_after is set k = image_at_key k (set k) (image_with is k)

-- both after images are put
abbrev pub after_images : Keyed → List SetImage → Keyed
after_images b is = record { key = key_after is b.key; set = set_after is b.set }
