use Rattle.std.proofs.Common.{◌≡◌, ◌++◌, drop}
use Rattle.bug_images.specs.Kept.{retold}
use Rattle.bug_images.proofs.kept.retold.Given as goal

abbrev pub invariant-loop-i : goal.invariant-loop-i
invariant-loop-i l = l.numbers ++ retold (drop l.i l.old) (drop l.i l.new) ≡ retold l.old l.new
