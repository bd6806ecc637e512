use Rattle.std.proofs.Common.{sym, subst}
use Rattle.ancestry.proofs.WholeLemmas.{Seen, seen_none, seen_link, seen_below, seen_more, seen_all}
use Rattle.ancestry.proofs.whole.are_forest.Goals as goal

pub loop-node-init : goal.loop-node-init
loop-node-init c =
    let t = c.args.links.now.entries in
    let given = c.into_iter-node-iterator.ensures.into_iter_gives in
    record { seen = subst (Seen t) (sym given.0) (seen_none t given.5); last = tt }

pub stands-requires-clause-link : goal.stands-requires-clause-link
stands-requires-clause-link c =
    let t = c.args.links.now.entries in
    seen_link t c.next.new.self (c.in-Some.node.now, c.in-Some.parent.now)
    (subst (Seen t) c.in-Some.ensures.steps c.loop-node.invariant.seen)

pub stands-requires-clause-below : goal.stands-requires-clause-below
stands-requires-clause-below c =
    let t = c.args.links.now.entries in
    seen_below t c.next.new.self (c.in-Some.node.now, c.in-Some.parent.now)
    (subst (Seen t) c.in-Some.ensures.steps c.loop-node.invariant.seen)

pub stands-requires-clause-before : goal.stands-requires-clause-before
stands-requires-clause-before c = c.loop-node.invariant.last

pub loop-node-preserved : goal.loop-node-preserved
loop-node-preserved c =
    let t = c.args.links.now.entries in
    let here = c.stands.ensures.stands c.if-not-stands.false in
    record {
      seen = seen_more t c.next.new.self (c.in-Some.node.now, c.in-Some.parent.now)
          (subst (Seen t) c.in-Some.ensures.steps c.loop-node.invariant.seen) here;
      last = here;
    }

pub returns-clause-forest : goal.returns-clause-forest
returns-clause-forest c = λ h.
    let t = c.args.links.now.entries in
    seen_all t c.into_iter-node-iterator.ensures.into_iter_gives.5
    (subst (Seen t) c.in-None.ensures.steps.0 c.loop-node.invariant.seen)
