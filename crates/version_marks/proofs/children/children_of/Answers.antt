use Rattle.std.proofs.Common.{subst}
use Rattle.version_marks.specs.Children.{is_child}
use Rattle.version_marks.proofs.LinkLemmas.{Gathered, child_gathered, root_gathered}
use Rattle.version_marks.proofs.children.children_of.Goals as goal

pub loop-node-preserved-in-Continue-branch-2 : goal.loop-node-preserved-in-Continue-branch-2
loop-node-preserved-in-Continue-branch-2 c =
    let t = c.args.tree.now in
    let was = is_child c.loop-node.children in
    child_gathered t c.next.new.self c.in-Some.node.now c.in-Some.parent.now was
    (subst (λ es. Gathered t es was) c.in-Some.ensures.steps c.loop-node.invariant) (is_child c.add_child.new.children)
    c.in-Some-parent.parent c.in-Some-parent.is c.in_ok-add_child.ensures.ok

pub loop-node-preserved : goal.loop-node-preserved
loop-node-preserved c =
    let t = c.args.tree.now in
    let was = is_child c.loop-node.children in
    root_gathered t c.next.new.self c.in-Some.node.now c.in-Some.parent.now was
    (subst (λ es. Gathered t es was) c.in-Some.ensures.steps c.loop-node.invariant) c.in_default.is
