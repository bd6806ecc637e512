use Rattle.std.proofs.Common.{◌≡◌, ◌++◌, take}
use Rattle.bug_core.specs.Others.{others}
use Rattle.bug_core.specs.Named.{named_numbers}
use Rattle.bug_core.proofs.images.add_others.Given as goal

abbrev pub invariant-loop-image : goal.invariant-loop-image
invariant-loop-image l = l.kept ≡ l.fn.kept ++ others (named_numbers l.named) (take l.image-index l.images)
