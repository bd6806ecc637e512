use Rattle.std.proofs.Common.{◌≡◌}
use Rattle.bug_core.specs.Clones.{clone_images}
use Rattle.bug_core.proofs.clones.clone_images.Given as goal

abbrev pub invariant-loop-i : goal.invariant-loop-i
invariant-loop-i l = l.images ≡ clone_images l.shared l.member l.next l.i
