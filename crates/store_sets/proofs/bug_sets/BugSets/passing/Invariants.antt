use Rattle.std.proofs.Common.{◌≡◌, ◌++◌}
use Rattle.std.specs.HashMap.{values}
use Rattle.store_sets.specs.Passing.{test_of}
use Rattle.store_sets.proofs.PassingLemmas.{passing_in}
use Rattle.store_sets.proofs.bug_sets.BugSets.passing.Given as goal

abbrev pub invariant-loop-place : goal.invariant-loop-place
invariant-loop-place l =
    l.numbers.items ++ passing_in (test_of l.question) l.place-iterator
    ≡ passing_in (test_of l.question) (values l.self.places)
