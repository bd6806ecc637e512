use Rattle.std.proofs.Common.{◌≡◌, drop}
use Rattle.bug_core.specs.Others.{those_meant}
use Rattle.bug_core.specs.Named.{named_numbers}
use Rattle.bug_core.proofs.by_number.first_meant.Given as goal

abbrev pub invariant-loop-i : goal.invariant-loop-i
invariant-loop-i l =
    those_meant (named_numbers l.named) (drop l.i l.images) ≡ those_meant (named_numbers l.named) l.images
