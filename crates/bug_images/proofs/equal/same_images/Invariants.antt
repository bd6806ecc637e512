use Rattle.std.proofs.Common.{◌≡◌, drop}
use Rattle.bug_images.specs.Changes.{same_images}
use Rattle.bug_images.proofs.equal.same_images.Given as goal

abbrev pub invariant-loop-i : goal.invariant-loop-i
invariant-loop-i l = same_images (drop l.i l.a) (drop l.i l.b) ≡ same_images l.a l.b
