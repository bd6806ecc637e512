use Rattle.std.proofs.Common.{◌≡◌, ◌++◌, drop}
use Rattle.table_nodes.specs.Grown.{unknown_of, roots_of}
use Rattle.table_nodes.proofs.grown.open_nodes.Given as goal

abbrev pub invariant-loop-node : goal.invariant-loop-node
invariant-loop-node l =
    record {
      unknown : l.unknown.items ++ unknown_of l.tree (drop l.node-index l.nodes) ≡ unknown_of l.tree l.nodes;
      roots : l.roots.items ++ roots_of l.tree (drop l.node-index l.nodes) ≡ roots_of l.tree l.nodes;
    }
