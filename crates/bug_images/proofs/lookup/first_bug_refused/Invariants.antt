use Rattle.std.proofs.Common.{◌≡◌, false, drop}
use Rattle.bug_record.specs.Images.{bug_in}
use Rattle.bug_record.specs.Words.{first_bug_refusal}
use Rattle.bug_images.proofs.lookup.first_bug_refused.Given as goal

abbrev pub invariant-loop-number : goal.invariant-loop-number
invariant-loop-number l =
    first_bug_refusal false (bug_in l.lookup) (drop l.number-index l.numbers)
    ≡ first_bug_refusal false (bug_in l.lookup) l.numbers
