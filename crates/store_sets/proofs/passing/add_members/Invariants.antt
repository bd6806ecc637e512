use Rattle.std.proofs.Common.{◌≡◌, ◌++◌, drop}
use Rattle.bug_record.specs.Images.{numbers_of}
use Rattle.store_sets.proofs.passing.add_members.Given as goal

abbrev pub invariant-loop-member : goal.invariant-loop-member
invariant-loop-member l =
    l.numbers.items ++ numbers_of (drop l.member-index l.members) ≡ l.fn.numbers.items ++ numbers_of l.members
