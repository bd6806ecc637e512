use Rattle.std.proofs.Common.{drop}
use Rattle.std.specs.HashMap.{get}
use Rattle.version_nodes.specs.Nodes.{same_node}
use Rattle.ancestry.proofs.AboveLemmas.{FitsBut}
use Rattle.ancestry.proofs.branch.forget_above.Given as goal

abbrev pub invariant-loop-node : goal.invariant-loop-node
invariant-loop-node l =
    FitsBut l.links.entries l.nodes (get same_node l.fn.above)
    → FitsBut l.links.entries (drop l.node-index l.nodes) (get same_node l.above)
