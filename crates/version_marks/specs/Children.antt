-- The children that a family keeps of each node.
-- This project's own rule.
use Rattle.std.specs.Prelude.{◌≡◌, ◌&&◌, ◌||◌, Bool, false, List, [], ◌∷◌, Some}
use Rattle.std.specs.Option.{option_map_or}
use Rattle.std.specs.HashMap.{HashMap, get}
use Rattle.std.specs.BTreeSet.{BTreeSet, contains}
use Rattle.version_nodes.specs.Nodes.{Node, same_node, node_cmp}
use Rattle.version_nodes.specs.Trees.{Ancestry}
use Rattle.ancestry.specs.Links.{has_parent}

-- whether the map has the one node among the other's children
abbrev pub is_child : {S : Type 0} → HashMap Node (BTreeSet Node) S → Node → Node → Bool
is_child children p c = option_map_or (λ cs. contains node_cmp cs c) (get same_node children p) false

-- the map has the children of each node, and no others
abbrev pub AreChildren : {S : Type 0} → Ancestry → HashMap Node (BTreeSet Node) S → Type 0
AreChildren t children = (p c : Node) → is_child children p c ≡ has_parent t c (Some p)

-- whether the one node stands right before the other in a branch
abbrev pub is_pair : List Node → Node → Node → Bool
is_pair [] c p = false
is_pair (n ∷ []) c p = false
is_pair (n ∷ q ∷ nodes) c p = (same_node c n && same_node p q) || is_pair (q ∷ nodes) c p
