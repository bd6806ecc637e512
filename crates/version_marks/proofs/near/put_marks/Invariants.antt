use Rattle.std.proofs.Common.{◌≡◌, cond, drop, Some}
use Rattle.std.specs.BTreeMap.{get}
use Rattle.version_nodes.specs.Nodes.{Node, node_cmp}
use Rattle.version_nodes.specs.Trees.{has_node}
use Rattle.version_marks.proofs.near.put_marks.Given as goal

-- with those that are left the map is the whole one
abbrev pub invariant-loop-node : goal.invariant-loop-node
invariant-loop-node l =
    (v : Node) → cond (has_node (drop l.node-index l.nodes) v) (Some l.kind) (get node_cmp l.marks v)
    ≡ cond (has_node l.nodes v) (Some l.kind) (get node_cmp l.fn.marks v)
