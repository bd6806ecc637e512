use Rattle.std.proofs.Common.{length, drop, rules, sym, subst}
use Rattle.std.specs.HashSet.{contains}
use Rattle.std.proofs.lemmas.List.{length_push}
use Rattle.std.proofs.lemmas.Slice.Zip.{zip_turn, zip_end}
use Rattle.version_nodes.specs.Nodes.{same_node}
use Rattle.ancestry.specs.Kept.{Adds}
use Rattle.ancestry.proofs.ParentLemmas.{forget_none, forget_one, forgotten}
use Rattle.ancestry.proofs.branch.forget_parents.Goals as goal

pub loop-node-preserved-then-not-was : goal.loop-node-preserved-then-not-was
loop-node-preserved-then-not-was c = λ was all f.
    let turn = zip_turn c.args.nodes.now c.args.were.now c.loop-node.yielded c.into_iter-node-iterator.result
    c.loop-node.node-iterator c.next.new.self c.next.result (search rules) (search rules) c.loop-node.yielded_by
    (c.in-Some.node, c.in-Some.was) c.in-Some.is c.next.ensures.steps in
    subst (λ k. Adds was (drop k c.args.nodes.now) (contains same_node c.remove.new.self))
    (sym (length_push c.loop-node.yielded (c.in-Some.node, c.in-Some.was)))
    (forget_one was c.args.nodes.now c.args.were.now (length c.loop-node.yielded) c.in-Some.node.now c.in-Some.was.now all
    turn.0 (turn.2 c.in-Some.node.now) (turn.3 c.in-Some.was.now) (contains same_node c.loop-node.parents)
    (contains same_node c.remove.new.self) c.if-not-was.true c.remove.ensures.updates.0 (c.loop-node.invariant was all f))

pub loop-node-preserved : goal.loop-node-preserved
loop-node-preserved c = λ was all f.
    let turn = zip_turn c.args.nodes.now c.args.were.now c.loop-node.yielded c.into_iter-node-iterator.result
    c.loop-node.node-iterator c.next.new.self c.next.result (search rules) (search rules) c.loop-node.yielded_by
    (c.in-Some.node, c.in-Some.was) c.in-Some.is c.next.ensures.steps in
    subst (λ k. Adds was (drop k c.args.nodes.now) (contains same_node c.loop-node.parents))
    (sym (length_push c.loop-node.yielded (c.in-Some.node, c.in-Some.was)))
    (forget_none was c.args.nodes.now c.args.were.now (length c.loop-node.yielded) c.in-Some.node.now c.in-Some.was.now all
    turn.0 (turn.2 c.in-Some.node.now) (turn.3 c.in-Some.was.now) (contains same_node c.loop-node.parents) c.if-not-was.false
    (c.loop-node.invariant was all f))

pub returns : goal.returns
returns c = λ was all f.
    let end = zip_end c.args.nodes.now c.args.were.now c.loop-node.yielded c.into_iter-node-iterator.result
    c.loop-node.node-iterator c.next.new.self c.next.result (search rules) (search rules) c.loop-node.yielded_by
    c.in-None.is c.next.ensures.steps in
    forgotten was c.args.nodes.now c.args.were.now (length c.loop-node.yielded) (contains same_node c.loop-node.parents) all end
    (c.loop-node.invariant was all f)
