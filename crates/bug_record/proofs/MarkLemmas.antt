-- Sets of nodes stay sets, what is in them, and that sets of the same nodes are one.
use Rattle.std.proofs.Common.{◌≡◌, ◌||◌, ◌&&◌, List, [], ◌++◌}
use Rattle.std.specs.Prelude.{not}
use Rattle.std.specs.List.Sorted.{IsStrictlySortedBy}
use Rattle.std.proofs.lemmas.List.Kept.{IsStrictlySortedBy-filter}
use Rattle.version_nodes.specs.Nodes.{Node, IsNode, same_node, node_cmp}
use Rattle.version_nodes.specs.NodeLaws.{same_node_equiv, node_cmp_total, node_ties}
use Rattle.version_nodes.proofs.NodeLemmas.{same_true}
use Rattle.version_nodes.specs.Trees.{has_node}
use Rattle.base_sequences.specs.Sets.{Each}
use Rattle.bug_record.specs.Marks.{IsNodeSet, with_node, node_set, without_node}
use Rattle.base_sequences.proofs.OrderedSetLemmas.{sorted-insert, sorted-set, each-insert, each-set, each-filter}
use Rattle.base_sequences.proofs.OrderedSetLemmas.{in-insert, in-set, in-without, in-append, same-sorted}

pub sorted-with_node : (nodes : List Node) (n : Node) → IsStrictlySortedBy node_cmp nodes
    → IsStrictlySortedBy node_cmp (with_node nodes n)
sorted-with_node nodes n h = sorted-insert node_cmp_total nodes n h

pub sorted-node_set : (nodes : List Node) → IsStrictlySortedBy node_cmp (node_set nodes)
sorted-node_set nodes = sorted-set node_cmp_total nodes

pub set-none : IsNodeSet []
unfolding IsStrictlySortedBy
set-none = record { ascending = tt; valid = tt }

pub set-with : (nodes : List Node) (n : Node) → IsNodeSet nodes → IsNode n → IsNodeSet (with_node nodes n)
set-with nodes n h v =
    record { ascending = sorted-with_node nodes n h.ascending; valid = each-insert node_cmp_total IsNode nodes n h.valid v }

pub set-without : (nodes : List Node) (n : Node) → IsNodeSet nodes → IsNodeSet (without_node nodes n)
set-without nodes n h = record {
  ascending = IsStrictlySortedBy-filter node_cmp (λ m. not (same_node n m)) nodes h.ascending;
  valid = each-filter IsNode (λ m. not (same_node n m)) nodes h.valid;
}

-- the set of a list of nodes
pub set-node_set : (nodes : List Node) → Each IsNode nodes → IsNodeSet (node_set nodes)
set-node_set nodes h = record { ascending = sorted-node_set nodes; valid = each-set node_cmp_total IsNode nodes h }

-- what is in a set with one more, and with one less
pub has-with_node : (nodes : List Node) (n m : Node) → has_node (with_node nodes n) m ≡ (has_node nodes m || same_node m n)
has-with_node nodes n m = in-insert node_cmp_total same_node_equiv node_ties nodes n m

pub has-without_node : (nodes : List Node) (n m : Node)
    → has_node (without_node nodes n) m ≡ (has_node nodes m && not (same_node n m))
has-without_node nodes n m = in-without node_cmp_total same_node_equiv node_ties nodes n m

-- what is in the set of a list, and in a list of two parts
pub has-node_set : (nodes : List Node) (m : Node) → has_node (node_set nodes) m ≡ has_node nodes m
has-node_set nodes m = in-set node_cmp_total same_node_equiv node_ties nodes m

pub has_node-append : (xs ys : List Node) (m : Node) → has_node (xs ++ ys) m ≡ (has_node xs m || has_node ys m)
has_node-append xs ys m = in-append same_node xs ys m

-- two strictly sorted lists of the same nodes are one
pub same-sorted_nodes : (xs ys : List Node) → IsStrictlySortedBy node_cmp xs → IsStrictlySortedBy node_cmp ys
    → ((n : Node) → has_node xs n ≡ has_node ys n) → xs ≡ ys
same-sorted_nodes xs ys a b h = same-sorted node_cmp_total same_node_equiv node_ties same_true xs ys a b h

pub same-node_sets : (xs ys : List Node) → IsNodeSet xs → IsNodeSet ys → ((n : Node) → has_node xs n ≡ has_node ys n) → xs ≡ ys
same-node_sets xs ys a b h = same-sorted_nodes xs ys a.ascending b.ascending h
