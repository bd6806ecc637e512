-- The slots of a line's nodes: a small table in which a node is looked for by its version.
-- This project's own rule.
use Rattle.std.specs.Prelude.{ℕ, ◌≡◌, ◌+◌, ◌<◌, ◌%◌, ◌==◌, List, [], ◌∷◌, length, slice_index_or, if◌then◌else◌}
use Rattle.std.specs.Hash.FoldHasher.{initial, write, finish}
use Rattle.version_nodes.specs.Nodes.{Node}
use Rattle.ancestry.specs.declared.indexed.TheConstants.{SLOTS}

-- the slot of a version
unfoldable pub slot_of : List ℕ → ℕ
slot_of version = finish (write initial version) % SLOTS

-- how many nodes a line has from the first one on whose version has this slot; none, where there is
-- no such node
abbrev pub slot_height : List Node → ℕ → ℕ
slot_height [] s = 0
slot_height (m ∷ line) s = if slot_of m.version == s then length line + 1 else slot_height line s

-- each slot has the height of the first node of the line whose version has it
pub record HasSlots (slots : List ℕ) (line : List Node) : Type 0 where
  pub all : length slots ≡ SLOTS
  pub heights : (s : ℕ) → s < length slots → slice_index_or slots s 0 ≡ slot_height line s
