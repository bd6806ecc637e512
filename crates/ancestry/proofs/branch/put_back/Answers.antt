use Rattle.std.proofs.Common.{length, drop, rules, sym, subst}
use Rattle.std.proofs.lemmas.List.{length_push}
use Rattle.std.proofs.lemmas.Slice.Zip.{zip_turn, zip_end}
use Rattle.version_nodes.specs.Branches.{Extends}
use Rattle.ancestry.proofs.ChangeLemmas.{put_back_more, put_back_done}
use Rattle.ancestry.proofs.branch.put_back.Goals as goal

pub loop-node-preserved : goal.loop-node-preserved
loop-node-preserved c = λ t forest pasts f.
    let turn = zip_turn c.args.nodes.now c.args.pasts.now c.loop-node.yielded c.into_iter-node-iterator.result
    c.loop-node.node-iterator c.next.new.self c.next.result (search rules) (search rules) c.loop-node.yielded_by
    (c.in-Some.node, c.in-Some.past) c.in-Some.is c.next.ensures.steps in
    subst (λ k. Extends t (drop k c.args.nodes.now) c.put_back_one.new.links.entries)
    (sym (length_push c.loop-node.yielded (c.in-Some.node, c.in-Some.past)))
    (put_back_more t c.args.nodes.now c.args.pasts.now (length c.loop-node.yielded) c.in-Some.node.now c.in-Some.past.now
    c.loop-node.links.entries c.put_back_one.new.links.entries
    pasts turn.0 (turn.2 c.in-Some.node.now) (turn.3 c.in-Some.past.now) (c.loop-node.invariant t forest pasts f)
    (c.put_back_one.ensures t))

pub returns : goal.returns
returns c = λ t forest pasts f.
    let end = zip_end c.args.nodes.now c.args.pasts.now c.loop-node.yielded c.into_iter-node-iterator.result
    c.loop-node.node-iterator c.next.new.self c.next.result (search rules) (search rules) c.loop-node.yielded_by
    c.in-None.is c.next.ensures.steps in
    put_back_done t c.args.nodes.now c.args.pasts.now (length c.loop-node.yielded) c.loop-node.links.entries forest pasts end
    (c.loop-node.invariant t forest pasts f)
