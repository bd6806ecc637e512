use Rattle.version_marks.specs.Children.{is_child}
use Rattle.version_marks.proofs.LinkLemmas.{Gathered}
use Rattle.version_marks.proofs.children.children_of.Given as goal

-- the children so far are those of the nodes before those that are left
abbrev pub invariant-loop-node : goal.invariant-loop-node
invariant-loop-node l = Gathered l.tree l.node-iterator (is_child l.children)
