-- The text of a list of bugs.
-- This project's own rule.
use Rattle.std.specs.Prelude.{ℕ, ◌-◌, Bool, List, ◌++◌, length, replicate, flat_map, codes}
use Rattle.std.specs.Prelude.{if◌then◌else◌}
use Rattle.std.specs.Fmt.{decimal}
use Rattle.version_nodes.specs.Nodes.{Node, node_text}
use Rattle.bug_record.specs.Severities.{severity_name}
use Rattle.desk_text.specs.Texts.{as_line}
use Rattle.bug_record.specs.declared.row.ListRow.{ListRow}

-- a text in so many places, with spaces before it, or after it; a longer one stands by itself
abbrev pub right_aligned : ℕ → List ℕ → List ℕ
right_aligned places text = replicate (places - length text) 32 ++ text

abbrev pub left_aligned : ℕ → List ℕ → List ℕ
left_aligned places text = text ++ replicate (places - length text) 32

abbrev pub state_word : Bool → List ℕ
state_word closed = if closed then codes "done" else codes "open"

-- the line of a row: the number and the severity in 9 places each, the state, and the title, with
-- two spaces between them
abbrev pub row_text : ListRow → List ℕ
row_text row = as_line
    (right_aligned 9 (decimal row.number) ++ codes "  " ++ left_aligned 9 (severity_name row.severity) ++ codes "  "
    ++ state_word row.closed ++ codes "  " ++ row.title)

-- the first line of a list, which says how many rows follow
abbrev pub list_head : List ℕ → Node → ℕ → List ℕ
list_head package_name node count =
    as_line (codes "Bugs in " ++ package_name ++ codes " at " ++ node_text node ++ codes ": " ++ decimal count)

-- the list of these rows, for a package at a node
abbrev pub list_text : List ℕ → Node → List ListRow → List ℕ
list_text package_name node rows = list_head package_name node (length rows) ++ flat_map row_text rows
