use Rattle.std.proofs.Common.{◌≡◌}
use Rattle.bug_record.specs.Images.{numbers_of}
use Rattle.bug_core.specs.Others.{has_any}
use Rattle.bug_core.proofs.images.has_one_of.Given as goal

abbrev pub invariant-loop-number : goal.invariant-loop-number
invariant-loop-number l =
    has_any (numbers_of l.image.members) l.number-iterator ≡ has_any (numbers_of l.image.members) l.numbers.keys
