use Rattle.std.proofs.Common.{◌≡◌, ◌++◌, flat_map}
use Rattle.std.specs.HashMap.{values}
use Rattle.store_sets.specs.Passing.{test_of, rows_there}
use Rattle.store_sets.proofs.bug_sets.BugSets.rows_passing.Given as goal

abbrev pub invariant-loop-place : goal.invariant-loop-place
invariant-loop-place l =
    l.rows.items ++ flat_map (rows_there (test_of l.question)) l.place-iterator
    ≡ flat_map (rows_there (test_of l.question)) (values l.self.places)
