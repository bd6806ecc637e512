-- The test of a list, and the order of its rows.
use Rattle.std.specs.Prelude.{◌==◌, ◌&&◌, Bool, not, List, ℕ}
use Rattle.version_nodes.specs.Nodes.{Node}
use Rattle.version_nodes.specs.Statuses.{status_on}
use Rattle.bug_record.specs.Heads.{is_found}
use Rattle.bug_record.specs.Lists.{concerns}
use Rattle.bug_record.specs.Severities.{rank}
use Rattle.bug_record.specs.declared.bug.Shared.{Shared}
use Rattle.bug_record.specs.declared.row.ListRow.{ListRow}
use Rattle.bug_record.specs.declared.severity.Severity.{Severity}
use Rattle.bug_record.specs.declared.severity.Severity.TheVariants.{Critical, Grave, Serious, Important, Normal, Minor, Wishlist}
use Rattle.store_keys.specs.declared.order.RowsBySeverity.{RowsBySeverity}

-- whether a bug with these shared fields is listed for a package, at the node of this line
abbrev pub is_listed_on : List Node → List ℕ → Shared → Bool
is_listed_on line package_name f =
    concerns f package_name && not f.archived && is_found (status_on line f.found f.fixed f.closed)

-- whether a row is of this severity
abbrev pub is_row_of : Severity → ListRow → Bool
is_row_of severity row = rank row.severity == rank severity

-- the rows that are kept under a severity
abbrev pub rows_under : RowsBySeverity → Severity → List ListRow
rows_under kept Critical = kept.critical.items
rows_under kept Grave = kept.grave.items
rows_under kept Serious = kept.serious.items
rows_under kept Important = kept.important.items
rows_under kept Normal = kept.normal.items
rows_under kept Minor = kept.minor.items
rows_under kept Wishlist = kept.wishlist.items
