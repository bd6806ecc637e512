-- Nodes that are gathered from lists: a list, and the tree in its place once lists differ.
use Rattle.std.specs.Prelude.{Bool, true, ◌&&◌, List, [], ◌∷◌, Option, Some, None}
use Rattle.std.specs.BTreeSet.{BTreeSet}
use Rattle.std.specs.Ordering.{is_lt}
use Rattle.version_nodes.specs.Nodes.{Node, node_cmp}
use Rattle.bug_record.specs.Ordered.{with_each}

-- the nodes of the tree, if there is one, and else the list
abbrev pub gathered : List Node → Option (BTreeSet Node) → List Node
gathered list None = list
gathered list (Some tree) = tree.keys

abbrev pub comes_after : Option Node → Node → Bool
comes_after None n = true
comes_after (Some m) n = is_lt (node_cmp m n)

-- whether each node stands once, in node order, and after the last one before them, if there is one
abbrev pub is_ordered : Option Node → List Node → Bool
is_ordered last [] = true
is_ordered last (n ∷ ns) = comes_after last n && is_ordered (Some n) ns

-- a set with all nodes of a list
abbrev pub with_nodes : List Node → List Node → List Node
with_nodes set nodes = with_each node_cmp set nodes
