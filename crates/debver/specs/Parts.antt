-- What a version is written from: [epoch:]upstream[-revision], by Debian Policy 5.6.12.

use Rattle.std.specs.Prelude.{◌≡◌, ℕ, ◌≤◌, ◌<◌, ◌==◌, ◌&&◌, ◌||◌, Bool, List, [], ◌∷◌, ◌++◌, length, Option, Some, None, IsTrue}
use Rattle.std.specs.Prelude.{IsFalse, is_some, ⊤}
use Rattle.std.specs.List.{list_all, list_any}
use Rattle.debver.specs.Characters.{is_digit, is_letter, is_colon, is_hyphen}

-- the parts, each by its bytes
pub record Version : Type 0 where
  pub epoch : Option (List ℕ)
  pub upstream : List ℕ
  pub revision : Option (List ℕ)

abbrev pub parts_of : Option (List ℕ) → List ℕ → Option (List ℕ) → Version
parts_of epoch upstream revision = record { epoch = epoch; upstream = upstream; revision = revision }

-- the epoch and its colon
abbrev pub epoch_text : Option (List ℕ) → List ℕ
epoch_text None = []
epoch_text (Some e) = e ++ 58 ∷ []

-- the hyphen and the revision
abbrev pub revision_text : Option (List ℕ) → List ℕ
revision_text None = []
revision_text (Some r) = 45 ∷ r

-- the text that is written from the parts
abbrev pub written : Version → List ℕ
written v = epoch_text v.epoch ++ (v.upstream ++ revision_text v.revision)

-- letters, digits, and `.`, `+` and `~`
abbrev pub in_revision : ℕ → Bool
in_revision c = is_digit c || is_letter c || c == 46 || c == 43 || c == 126

-- these and the hyphen; that the first be a digit is advice, and isn't asked
-- this project's own rule: the colon too, where an epoch is written
abbrev pub in_upstream : Bool → ℕ → Bool
in_upstream has_epoch c = in_revision c || is_hyphen c || (has_epoch && is_colon c)

-- there are characters, and each is right
abbrev pub IsPart : (ℕ → Bool) → List ℕ → Type 0
IsPart is_right s = (0 < length s) × IsTrue (list_all is_right s)

abbrev pub IsEpoch : Option (List ℕ) → Type 0
IsEpoch None = ⊤
IsEpoch (Some e) = IsPart is_digit e

abbrev pub IsRevision : Option (List ℕ) → Type 0
IsRevision None = ⊤
IsRevision (Some r) = IsPart in_revision r

-- the colon after the epoch is the text's first; with no epoch there is none
abbrev pub PrecedesFirstColon : Option (List ℕ) → List ℕ → Type 0
PrecedesFirstColon None rest = IsFalse (list_any is_colon rest)
PrecedesFirstColon (Some e) rest = IsFalse (list_any is_colon e)

-- the hyphen before the revision is the last; with no revision there is none
abbrev pub FollowsLastHyphen : List ℕ → Option (List ℕ) → Type 0
FollowsLastHyphen upstream None = IsFalse (list_any is_hyphen upstream)
FollowsLastHyphen upstream (Some r) = IsFalse (list_any is_hyphen r)

-- the text is cut at its first colon, and the rest at its last hyphen
pub record IsCut (text : List ℕ) (v : Version) : Type 0 where
  pub whole : text ≡ written v
  pub first_colon : PrecedesFirstColon v.epoch (v.upstream ++ revision_text v.revision)
  pub last_hyphen : FollowsLastHyphen v.upstream v.revision

-- the text is a version of these parts; that it has 100 bytes at most is this project's own rule
pub record HasParts (text : List ℕ) (v : Version) : Type 0 where
  pub cut : IsCut text v
  pub epoch : IsEpoch v.epoch
  pub upstream : IsPart (in_upstream (is_some v.epoch)) v.upstream
  pub revision : IsRevision v.revision
  pub short : length text ≤ 100
