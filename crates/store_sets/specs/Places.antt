-- The bugs of a desk in memory, as a map from each number to what stands in its place, and the
-- places that images give to bugs.
use Rattle.std.specs.Prelude.{ℕ, Option, Some, None, option_map}
use Rattle.std.specs.Option.{option_and_then}
use Rattle.std.specs.Prelude.{nat_eq}
use Rattle.std.specs.HashMap.{HashMap, get}
use Rattle.bug_record.specs.declared.bug.SetImage.{SetImage}
use Rattle.store_sets.specs.declared.places.Place.{Place}
use Rattle.store_sets.specs.declared.places.Place.TheVariants.{First, After}

-- the key of the bug n, which has this place: its own number, or that of the first bug of its set
abbrev pub key_at : ℕ → Place → ℕ
key_at n (First i) = n
key_at n (After k) = k

-- the image that stands there
abbrev pub image_at : Place → Option SetImage
image_at (First i) = Some i
image_at (After k) = None

-- the key of each bug
abbrev pub keys : {S : Type 0} → HashMap ℕ Place S → ℕ → Option ℕ
keys bugs n = option_map (key_at n) (get nat_eq bugs n)

-- the image of each key
abbrev pub sets : {S : Type 0} → HashMap ℕ Place S → ℕ → Option SetImage
sets bugs k = option_and_then image_at (get nat_eq bugs k)
