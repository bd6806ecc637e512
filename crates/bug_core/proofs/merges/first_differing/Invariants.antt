use Rattle.std.proofs.Common.{◌≡◌, drop}
use Rattle.bug_record.specs.Images.{bug_in}
use Rattle.bug_record.specs.Bugs.{first_refusal}
use Rattle.bug_record.specs.Differences.{differing}
use Rattle.bug_core.specs.Agreements.{difference_of}
use Rattle.bug_core.proofs.merges.first_differing.Given as goal

abbrev pub invariant-loop-number : goal.invariant-loop-number
invariant-loop-number l =
    first_refusal (differing (difference_of l.agreement l.first)) (bug_in l.lookup) (drop l.number-index l.numbers)
    ≡ first_refusal (differing (difference_of l.agreement l.first)) (bug_in l.lookup) l.numbers
