use Rattle.std.proofs.Common.{◌≡◌, drop}
use Rattle.bug_fields.specs.Gathered.{with_nodes}
use Rattle.bug_fields.proofs.gathered.add_nodes.Given as goal

abbrev pub invariant-loop-node : goal.invariant-loop-node
invariant-loop-node l = with_nodes l.set.keys (drop l.node-index l.nodes) ≡ with_nodes l.fn.set.keys l.nodes
