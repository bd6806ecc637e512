use Rattle.std.proofs.Common.{◌≡◌, ◌++◌, ◌∷◌, drop, flat_map}
use Rattle.version_nodes.specs.Nodes.{node_text}
use Rattle.desk_text.proofs.pages.append_each_node.Given as goal

abbrev pub invariant-loop-node : goal.invariant-loop-node
invariant-loop-node l =
    l.out.items ++ flat_map (λ node. 32 ∷ node_text node) (drop l.node-index l.nodes)
    ≡ l.fn.out.items ++ flat_map (λ node. 32 ∷ node_text node) l.nodes
