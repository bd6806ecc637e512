-- What a tree keeps beside the links.
-- This project's own rule.
use Rattle.std.specs.Prelude.{◌≡◌, ◌&&◌, Bool, false, not, List, [], ◌∷◌, Option, Some, None}
use Rattle.std.specs.HashMap.{HashMap, get}
use Rattle.std.specs.HashSet.{HashSet, contains}
use Rattle.version_nodes.specs.Nodes.{Node, same_node}
use Rattle.version_nodes.specs.Trees.{Ancestry, has_node, parent_of, is_parent}

-- the set has the nodes that are some node's parent, and no others
abbrev pub AreParents : {S : Type 0} → Ancestry → HashSet Node S → Type 0
AreParents t parents = (n : Node) → contains same_node parents n ≡ is_parent t n

-- the map has the parent of each node that has one
abbrev pub HasParents : {S : Type 0} → Ancestry → HashMap Node Node S → Type 0
HasParents t above = (n : Node) → get same_node above n ≡ parent_of t n

-- a test answers now as it did before, but perhaps at nodes of the list at which it failed
abbrev pub Adds : (Node → Bool) → List Node → (Node → Bool) → Type 0
Adds was nodes now = (n : Node) → (has_node nodes n && not (was n)) ≡ false → now n ≡ was n

-- a node that may be there, as a list
abbrev pub listed : Option Node → List Node
listed None = []
listed (Some n) = n ∷ []
