use Rattle.std.proofs.Common.{◌≡◌, Bool, length, map, drop}
use Rattle.std.specs.HashSet.{contains}
use Rattle.version_nodes.specs.Nodes.{Node, same_node}
use Rattle.ancestry.specs.Kept.{Adds}
use Rattle.ancestry.proofs.branch.forget_parents.Given as goal

abbrev pub invariant-loop-node : goal.invariant-loop-node
invariant-loop-node l =
    (was : Node → Bool) → l.were ≡ map was l.nodes → Adds was l.nodes (contains same_node l.fn.parents)
    → Adds was (drop (length l.yielded) l.nodes) (contains same_node l.parents)
