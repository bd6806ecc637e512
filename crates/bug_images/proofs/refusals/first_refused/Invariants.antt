use Rattle.std.proofs.Common.{◌≡◌, drop}
use Rattle.bug_record.specs.Images.{bug_in}
use Rattle.bug_record.specs.Words.{first_bug_refusal}
use Rattle.bug_images.proofs.refusals.first_refused.Given as goal

abbrev pub invariant-loop-number : goal.invariant-loop-number
invariant-loop-number l =
    first_bug_refusal l.may_be (bug_in l.index) (drop l.number-index l.numbers)
    ≡ first_bug_refusal l.may_be (bug_in l.index) l.numbers
