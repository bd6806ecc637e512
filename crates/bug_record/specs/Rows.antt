-- The rows of lists.
-- This project's own rule.
use Rattle.std.specs.Prelude.{ℕ, List, [], ◌∷◌, Option, Some, None}
use Rattle.bug_record.specs.declared.bug.Bug.{Bug}
use Rattle.bug_record.specs.declared.row.ListRow.{ListRow}

-- the row of the bug n
abbrev pub row_of : ℕ → Bug → ListRow
row_of n b = record { number = n; severity = b.shared.severity; closed = b.shared.closed; title = b.title }

-- a row before others, if there is a bug
abbrev pub with_row : ℕ → Option Bug → List ListRow → List ListRow
with_row n None rows = rows
with_row n (Some b) rows = row_of n b ∷ rows

-- the rows of those of the bugs of these numbers that are there
abbrev pub rows_of : (ℕ → Option Bug) → List ℕ → List ListRow
rows_of bug [] = []
rows_of bug (n ∷ ns) = with_row n (bug n) (rows_of bug ns)
