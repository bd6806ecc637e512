use Rattle.std.proofs.Common.{◌≡◌, ◌||◌}
use Rattle.std.specs.HashSet.{contains}
use Rattle.version_nodes.specs.Nodes.{Node, same_node}
use Rattle.version_nodes.specs.Trees.{is_parent}
use Rattle.ancestry.proofs.WholeLemmas.{among}
use Rattle.ancestry.proofs.whole.parents_of.Given as goal

-- the parents so far, and those in the links that are left, are all
abbrev pub invariant-loop-parent : goal.invariant-loop-parent
invariant-loop-parent l = (n : Node) → (contains same_node l.parents n || among l.parent-iterator n) ≡ is_parent l.links.entries n
