use Rattle.std.proofs.Common.{◌≡◌, drop}
use Rattle.bug_record.specs.Images.{numbers_of}
use Rattle.bug_core.specs.Others.{has_any}
use Rattle.bug_core.proofs.joins.has_own.Given as goal

abbrev pub invariant-loop-number : goal.invariant-loop-number
invariant-loop-number l =
    has_any (numbers_of l.members) (drop l.number-index l.numbers) ≡ has_any (numbers_of l.members) l.numbers
