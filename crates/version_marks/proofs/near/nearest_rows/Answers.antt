use Rattle.std.proofs.Common.{arith}
use Rattle.version_marks.proofs.WalkLemmas.{walk_begins, walk_goes, walk_shorter, walk_ends}
use Rattle.version_marks.proofs.near.nearest_rows.Goals as goal

pub loop-place-init : goal.loop-place-init
loop-place-init c = record {
  walk = walk_begins c.args.family.now c.args.found.now c.args.fixed.now c.tree.ensures.forest c.in_ok-marks.marks c.in_ok-marks.ensures
      c.in_ok-rows.rows.items (rw c.tree.ensures.tree at c.in_ok-rows.ensures.rows) c.in_ok-rows.ensures.ordered;
  marks = c.in_ok-marks.ensures;
}

pub loop-place-smaller : goal.loop-place-smaller
loop-place-smaller c =
    walk_shorter c.args.family.now c.args.found.now c.args.fixed.now c.tree.ensures.forest c.loop-place.rows.items c.loop-place.place
    c.loop-place.invariant.walk (omega (arith, c.len.ensures, c.loop-place.rows.ok, c.loop-place-test.true))

pub loop-place-preserved : goal.loop-place-preserved
loop-place-preserved c = record {
  walk = walk_goes c.args.family.now c.args.found.now c.args.fixed.now c.tree.ensures.forest c.in_ok-marks.marks
      c.loop-place.invariant.marks c.loop-place.rows.items c.push_children.new.rows.items c.loop-place.place
      c.loop-place.invariant.walk c.in_ok-push_children.ensures;
  marks = c.loop-place.invariant.marks;
}

pub returns-clause-rows : goal.returns-clause-rows
returns-clause-rows c =
    walk_ends c.args.family.now c.args.found.now c.args.fixed.now c.tree.ensures.forest c.loop-place.rows.items c.loop-place.place
    c.loop-place.invariant.walk (omega (arith, c.len.ensures, c.loop-place.rows.ok, c.loop-place-test.false))
