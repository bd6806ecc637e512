-- The links of an ancestry: a node, and its parent if it has one.
-- This project's own rule.
use Rattle.std.specs.Prelude.{Bool, false, Option, Some, None, is_none}
use Rattle.std.specs.Option.{option_map_or}
use Rattle.version_nodes.specs.Nodes.{Node, same_node}
use Rattle.version_nodes.specs.Trees.{Ancestry, parent_of}

-- whether the node has this parent, or none
abbrev pub has_parent : Ancestry → Node → Option Node → Bool
has_parent t n None = is_none (parent_of t n)
has_parent t n (Some p) = option_map_or (same_node p) (parent_of t n) false
