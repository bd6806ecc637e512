use Rattle.std.proofs.Common.{refl, sym, subst}
use Rattle.std.specs.HashMap.{get}
use Rattle.version_nodes.specs.Nodes.{same_node}
use Rattle.ancestry.proofs.AboveLemmas.{SoFar, none_there, none_reached, root_reached, child_reached}
use Rattle.ancestry.proofs.whole.parents_above.Goals as goal

pub loop-node-init : goal.loop-node-init
loop-node-init c =
    let t = c.args.links.now.entries in
    let given = c.into_iter-node-iterator.ensures.into_iter_gives in
    let none = none_there c.in_ok-above.above c.in_ok-above.ensures.empty in
    subst (λ es. SoFar t es (get same_node c.in_ok-above.above)) (sym given.0) (none_reached t (get same_node c.in_ok-above.above) given.5 none)

pub loop-node-preserved-in-Continue-branch-2 : goal.loop-node-preserved-in-Continue-branch-2
loop-node-preserved-in-Continue-branch-2 c =
    let t = c.args.links.now.entries in
    child_reached t c.next.new.self (c.in-Some.node.now, c.in-Some.parent.now) (get same_node c.loop-node.above) (get same_node c.put_above.new.above)
    (subst (λ es. SoFar t es (get same_node c.loop-node.above)) c.in-Some.ensures.steps c.loop-node.invariant) c.in-Some-parent.parent
    c.in-Some-parent.is c.in_ok-put_above.ensures.ok

pub loop-node-preserved : goal.loop-node-preserved
loop-node-preserved c =
    let t = c.args.links.now.entries in
    root_reached t c.next.new.self (c.in-Some.node.now, c.in-Some.parent.now) (get same_node c.loop-node.above) (get same_node c.loop-node.above)
    (subst (λ es. SoFar t es (get same_node c.loop-node.above)) c.in-Some.ensures.steps c.loop-node.invariant) c.in_default.is
    (λ n. refl)
