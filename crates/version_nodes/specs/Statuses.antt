-- The status of a bug at a version.
-- This project's own rule.
use Rattle.std.specs.Prelude.{◌==◌, ◌&&◌, ◌||◌, Bool, List, length, Option, Some, None, option_map, if◌then◌else◌}
use Rattle.std.specs.List.{find}
use Rattle.version_nodes.specs.Nodes.{Node}
use Rattle.version_nodes.specs.Trees.{Ancestry, has_node, line}
use Rattle.version_nodes.specs.declared.statuses.MarkKind.{MarkKind}
use Rattle.version_nodes.specs.declared.statuses.MarkKind.TheVariants.{Found as MarkedFound, Fixed as MarkedFixed}
use Rattle.version_nodes.specs.declared.statuses.Status.{Status}
use Rattle.version_nodes.specs.declared.statuses.Status.TheVariants.{Found, Fixed, Absent, Done}

-- the first node of a line that is in one of the lists
abbrev pub first_marked : List Node → List Node → List Node → Option Node
first_marked found fixed line = find (λ n. has_node found n || has_node fixed n) line

-- what a marked node is marked as, found before fixed
abbrev pub kind_at : List Node → Node → MarkKind
kind_at found n = if has_node found n then MarkedFound else MarkedFixed

-- the kind of the first mark of a line
abbrev pub first_kind : List Node → List Node → List Node → Option MarkKind
first_kind found fixed line = option_map (kind_at found) (first_marked found fixed line)

-- that kind decides; with no mark in the line the bug is found where the found list is empty
abbrev pub status_by : Option MarkKind → Bool → Status
status_by (Some MarkedFound) found_empty = Found
status_by (Some MarkedFixed) found_empty = Fixed
status_by None found_empty = if found_empty then Found else Absent

-- done where the bug is closed and its fixed list is empty, and else by the kind of the first mark
abbrev pub status_from : Option MarkKind → Bool → Bool → Bool → Status
status_from kind found_empty fixed_empty closed =
    if closed && fixed_empty then Done else status_by kind found_empty

-- the status where this is the line, by the found list, the fixed list and whether the bug is
-- closed
unfoldable pub status_on : List Node → List Node → List Node → Bool → Status
status_on line found fixed closed =
    status_from (first_kind found fixed line) (length found == 0) (length fixed == 0) closed

-- the status at a node
unfoldable pub status : Ancestry → List Node → List Node → Bool → Node → Status
status t found fixed closed n = status_on (line t n) found fixed closed
