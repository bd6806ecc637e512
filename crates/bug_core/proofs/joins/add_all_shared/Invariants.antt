use Rattle.std.proofs.Common.{◌≡◌, drop}
use Rattle.bug_core.specs.Others.{those_meant}
use Rattle.bug_core.specs.Named.{named_numbers}
use Rattle.bug_core.specs.Joins.{with_all_shared}
use Rattle.bug_core.proofs.joins.add_all_shared.Given as goal

abbrev pub invariant-loop-image : goal.invariant-loop-image
invariant-loop-image l =
    with_all_shared l.joined (those_meant (named_numbers l.named) (drop l.image-index l.images))
    ≡ with_all_shared l.fn.joined (those_meant (named_numbers l.named) l.images)
