use Rattle.std.proofs.Common.{◌≡◌, drop}
use Rattle.bug_record.specs.Changed.{same_tags}
use Rattle.bug_images.proofs.equal.same_tags.Given as goal

abbrev pub invariant-loop-i : goal.invariant-loop-i
invariant-loop-i l = same_tags (drop l.i l.a) (drop l.i l.b) ≡ same_tags l.a l.b
