-- Sets of nodes, in node order, as a bug's marks are.
-- This project's own rule.
use Rattle.std.specs.Prelude.{Bool, not, List, filter}
use Rattle.std.specs.BTreeSet.{insert_key}
use Rattle.std.specs.List.Sorted.{IsStrictlySortedBy}
use Rattle.std.specs.Ordering.{is_lt}
use Rattle.std.specs.List.{list_any}
use Rattle.debver.specs.Versions.{text_cmp}
use Rattle.version_nodes.specs.Nodes.{Node, IsNode, same_node, node_cmp}
use Rattle.base_sequences.specs.Ordered.{ordered_set}
use Rattle.base_sequences.specs.Sets.{Each}

-- each node stands once, in node order, and is a package name and a version
pub record IsNodeSet (nodes : List Node) : Type 0 where
  pub ascending : IsStrictlySortedBy node_cmp nodes
  pub valid : Each IsNode nodes

-- the set with n
abbrev pub with_node : List Node → Node → List Node
with_node nodes n = insert_key node_cmp nodes n

-- the nodes of a list, each once, in node order
abbrev pub node_set : List Node → List Node
node_set nodes = ordered_set node_cmp nodes

-- the set without n
abbrev pub without_node : List Node → Node → List Node
without_node nodes n = filter (λ m. not (same_node n m)) nodes

-- whether a version is lower than one of the set, in the order of versions, whatever the sources
abbrev pub is_below_some : Node → List Node → Bool
is_below_some n nodes = list_any (λ m. is_lt (text_cmp n.version m.version)) nodes
