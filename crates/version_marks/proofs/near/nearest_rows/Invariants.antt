use Rattle.std.proofs.Common.{◌-◌, length}
use Rattle.version_marks.specs.Walks.{AreMarks}
use Rattle.version_marks.proofs.WalkLemmas.{Walk}
use Rattle.version_marks.proofs.near.nearest_rows.Given as goal

abbrev pub invariant-loop-place : goal.invariant-loop-place
invariant-loop-place l = record {
  walk : Walk l.family l.found l.fixed l.rows.items l.place;
  marks : AreMarks l.found l.fixed l.marks;
}

-- each row is that of another known node
abbrev pub decreases-loop-place : goal.decreases-loop-place
decreases-loop-place l = length l.family - l.place
