use Rattle.std.proofs.Common.{◌≡◌, ◌++◌}
use Rattle.std.specs.Prelude.{filter}
use Rattle.std.specs.Vec.Iter.{into_iter_items}
use Rattle.bug_record.specs.declared.severity.Severity.{Severity}
use Rattle.store_keys.specs.Listing.{is_row_of, rows_under}
use Rattle.store_keys.proofs.order.by_severity.Given as goal

-- under each severity, the rows so far and those that are left are all of that severity
abbrev pub invariant-loop-row : goal.invariant-loop-row
invariant-loop-row l =
    (severity : Severity) → rows_under l.kept severity ++ filter (is_row_of severity) (into_iter_items l.row-iterator)
    ≡ filter (is_row_of severity) l.fn.rows.items
