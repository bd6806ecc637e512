use Rattle.std.specs.HashMap.{get}
use Rattle.version_nodes.specs.Nodes.{same_node}
use Rattle.ancestry.proofs.AboveLemmas.{SoFar}
use Rattle.ancestry.proofs.whole.parents_above.Given as goal

-- of the nodes so far the parents are found
abbrev pub invariant-loop-node : goal.invariant-loop-node
invariant-loop-node l = SoFar l.links.entries l.node-iterator (get same_node l.above)
