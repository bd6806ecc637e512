-- The tree that a change needs, and the image and the place that it may know.
-- This project's own rule.
use Rattle.std.specs.Prelude.{◌≡◌, ℕ, List, length, true, false, Option, Some, None, IfSome}
use Rattle.version_nodes.specs.Trees.{Ancestry}
use Rattle.base_words.specs.Texts.{IfGiven}
use Rattle.bug_record.specs.declared.bug.SetImage.{SetImage}
use Rattle.bug_record.specs.declared.command.Change.{Change}
use Rattle.store_keys.specs.Keys.{key_of}
use Rattle.table_content.specs.Changes.{all_stay}
use Rattle.table_content.specs.Content.{Content}
use Rattle.table_content.specs.View.{image}

-- the tree is the content's, where a mark changes
abbrev pub IsTreeFor : Ancestry → Content → Change → Type 0
IsTreeFor t c change = all_stay c change.images ≡ false → c.nodes ≡ t

-- a tree that is there is the content's, and there is none only where no mark changes
abbrev pub HasTree : Option Ancestry → Content → Change → Type 0
HasTree None c change = all_stay c change.images ≡ true
HasTree (Some t) c change = c.nodes ≡ t

-- the same of a change, if there is one
abbrev pub HasTreeIfAny : Option Ancestry → Content → Option Change → Type 0
HasTreeIfAny tree c change = IfGiven (HasTree tree c) change

-- an image that is known is the one of its set
abbrev pub IsKnownIn : Option SetImage → Content → Type 0
IsKnownIn known c = IfSome known (λ i. image c (key_of i) ≡ Some i)

-- the place comes next of the message of the id: so many outcomes are kept of it
abbrev pub IsNextPlace : List ℕ → ℕ → Content → Type 0
IsNextPlace id place c = place ≡ length (c.outcomes id)

-- a place that is known comes next of its message
abbrev pub IsPlaceIn : Option (List ℕ × ℕ) → Content → Type 0
IsPlaceIn known c = IfSome known (λ next. IsNextPlace next.0 next.1 c)
