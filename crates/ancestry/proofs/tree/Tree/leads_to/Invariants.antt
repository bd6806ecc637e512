use Rattle.std.proofs.Common.{◌≡◌, length}
use Rattle.version_nodes.specs.Trees.{has_node, line}
use Rattle.ancestry.proofs.tree.Tree.leads_to.Given as goal

abbrev pub invariant-loop-parent : goal.invariant-loop-parent
invariant-loop-parent l = has_node (line l.self l.at) l.node ≡ has_node (line l.self l.from) l.node

abbrev pub decreases-loop-parent : goal.decreases-loop-parent
decreases-loop-parent l = length (line l.self l.at)
