use Rattle.std.proofs.Common.{◌≡◌, drop}
use Rattle.bug_record.specs.Images.{bug_in}
use Rattle.bug_record.specs.Bugs.{bugs_at}
use Rattle.bug_record.specs.Merges.{first_owner}
use Rattle.bug_core.proofs.joins.first_owner.Given as goal

abbrev pub invariant-loop-number : goal.invariant-loop-number
invariant-loop-number l =
    first_owner (bugs_at (bug_in l.lookup) (drop l.number-index l.numbers)) ≡ first_owner (bugs_at (bug_in l.lookup) l.numbers)
