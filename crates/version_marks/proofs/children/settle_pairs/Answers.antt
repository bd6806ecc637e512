use Rattle.std.proofs.Common.{Some}
use Rattle.ancestry.specs.Links.{has_parent}
use Rattle.version_marks.proofs.PairLemmas.{settled_after}
use Rattle.version_marks.proofs.children.settle_pairs.Goals as goal

pub loop-place-preserved : goal.loop-place-preserved
loop-place-preserved c =
    settled_after c.args.nodes.now c.loop-place.place c.index-nodes-place.result c.index-nodes-place-in-loop-place.result
    c.loop-place.auto.place c.loop-place-test.true c.index-nodes-place.is c.index-nodes-place-in-loop-place.is
    c.args.children.now c.loop-place.children c.settle.new.children (λ n p. has_parent c.args.tree.now n (Some p)) c.settle.ensures
    c.loop-place.invariant
