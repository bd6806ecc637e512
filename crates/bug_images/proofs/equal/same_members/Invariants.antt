use Rattle.std.proofs.Common.{◌≡◌, drop}
use Rattle.bug_images.specs.Changes.{same_members}
use Rattle.bug_images.proofs.equal.same_members.Given as goal

abbrev pub invariant-loop-i : goal.invariant-loop-i
invariant-loop-i l = same_members (drop l.i l.a) (drop l.i l.b) ≡ same_members l.a l.b
