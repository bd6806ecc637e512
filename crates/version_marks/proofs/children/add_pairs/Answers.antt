use Rattle.version_marks.proofs.PairLemmas.{others_after, kept_after, added_after}
use Rattle.version_marks.proofs.children.add_pairs.Goals as goal

pub loop-place-preserved : goal.loop-place-preserved
loop-place-preserved c = record {
  others = others_after c.args.nodes.now c.loop-place.place c.index-nodes-place.result c.index-nodes-place-in-loop-place.result
      c.loop-place.auto.place c.loop-place-test.true c.index-nodes-place.is c.index-nodes-place-in-loop-place.is
      c.args.children.now c.loop-place.children c.add_child.new.children c.in_ok-add_child.ensures.ok c.loop-place.invariant.others;
  kept = kept_after c.args.nodes.now c.loop-place.place c.index-nodes-place.result c.index-nodes-place-in-loop-place.result
      c.loop-place.auto.place c.loop-place-test.true c.index-nodes-place.is c.index-nodes-place-in-loop-place.is
      c.args.children.now c.loop-place.children c.add_child.new.children c.in_ok-add_child.ensures.ok c.loop-place.invariant.kept;
  added = added_after c.args.nodes.now c.loop-place.place c.index-nodes-place.result c.index-nodes-place-in-loop-place.result
      c.loop-place.auto.place c.loop-place-test.true c.index-nodes-place.is c.index-nodes-place-in-loop-place.is
      c.args.children.now c.loop-place.children c.add_child.new.children c.in_ok-add_child.ensures.ok c.loop-place.invariant.added;
}
