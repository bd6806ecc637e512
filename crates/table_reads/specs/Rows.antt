-- The row of a bug, as the images of sets show it.
use Rattle.std.specs.Prelude.{ℕ, ◌==◌, List, [], ◌∷◌, Option, Some, None, option_map, if◌then◌else◌}
use Rattle.std.specs.Option.{option_or, option_and_then}
use Rattle.version_nodes.specs.Nodes.{Node}
use Rattle.bug_record.specs.Images.{bug_of, member_at}
use Rattle.bug_record.specs.declared.bug.Member.{Member}
use Rattle.bug_record.specs.declared.bug.SetImage.{SetImage}
use Rattle.bug_record.specs.Rows.{row_of}
use Rattle.bug_record.specs.declared.row.ListRow.{ListRow}
use Rattle.table_content.specs.Content.{Content}
use Rattle.table_content.specs.View.{image}
use Rattle.table_reads.specs.Found.{is_shown_at}
use Rattle.table_sets.specs.declared.listed.RowFields.{RowFields}

-- the row of the bug n, if it is one of the image's
abbrev pub row_at : SetImage → ℕ → Option ListRow
row_at i n = option_map (row_of n) (option_map (bug_of i) (member_at i.members n))

-- the same, if it is one of the key's set, is not archived and is found at a node
abbrev pub row_in : Content → ℕ → Node → ℕ → Option ListRow
row_in c k v n = option_and_then (λ i. if is_shown_at c k v i.shared then row_at i n else None) (image c k)

-- as the last of the keys' sets that has the bug says it
abbrev pub row_for : Content → Node → List ℕ → ℕ → Option ListRow
row_for c v [] n = None
row_for c v (k ∷ ks) n = option_or (row_for c v ks n) (row_in c k v n)

-- the row of a bug of a set
abbrev pub row_with : RowFields → Member → ListRow
row_with f m = record { number = m.number; severity = f.severity; closed = f.closed; title = m.title }

-- the row of the bug n, as the last of these bugs that has its number says it
abbrev pub row_among : RowFields → List Member → ℕ → Option ListRow
row_among f [] n = None
row_among f (m ∷ ms) n = option_or (row_among f ms n) (if m.number == n then Some (row_with f m) else None)
