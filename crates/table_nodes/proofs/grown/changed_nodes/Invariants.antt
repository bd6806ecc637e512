use Rattle.std.proofs.Common.{◌≡◌}
use Rattle.table_nodes.specs.Grown.{changed_of}
use Rattle.table_nodes.proofs.grown.changed_nodes.Given as goal

abbrev pub invariant-loop-node : goal.invariant-loop-node
invariant-loop-node l =
    changed_of l.tree l.changed.items l.node-iterator.rest.items ≡ changed_of l.tree l.fn.nodes.unknown.items l.fn.nodes.roots.items
