-- The nearest mark of a set, as seen from a node.
-- This project's own rule.
use Rattle.std.specs.Prelude.{◌≡◌, ◌&&◌, Bool, true, not, List, [], ◌∷◌, Option, Some, None, option_map, if◌then◌else◌, ⊤}
use Rattle.std.specs.List.{list_any}
use Rattle.version_nodes.specs.Nodes.{Node, same_node}
use Rattle.version_nodes.specs.Trees.{Ancestry, knows, has_node, line}
use Rattle.version_nodes.specs.Statuses.{first_marked, kind_at}
use Rattle.version_marks.specs.declared.near.Near.{Near}
use Rattle.version_marks.specs.declared.near.NearRow.{NearRow}

-- what a marked node sees: itself
abbrev pub own_mark : List Node → Node → Near
own_mark found v = record { mark = v; kind = kind_at found v }

-- the first marked node of a line, and as what it is marked, found before fixed
abbrev pub nearest_on : List Node → List Node → List Node → Option Near
nearest_on found fixed line = option_map (own_mark found) (first_marked found fixed line)

-- as seen from a known node; an unknown node sees none
abbrev pub nearest_of : Ancestry → List Node → List Node → Node → Option Near
nearest_of t found fixed v = if knows t v then nearest_on found fixed (line t v) else None

-- the first row of a node
abbrev pub row_at : List NearRow → Node → Option Near
row_at [] v = None
row_at (r ∷ rows) v = if same_node r.node v then Some r.near else row_at rows v

-- each node has one row at most
abbrev pub once : List NearRow → Type 0
once [] = ⊤
once (r ∷ rows) = (row_at rows r.node ≡ None) × once rows

-- whether the line has one of these nodes
abbrev pub meets : List Node → List Node → Bool
meets nodes line = list_any (has_node nodes) line

-- whether each node stands once
abbrev pub is_once : List Node → Bool
is_once [] = true
is_once (v ∷ vs) = not (has_node vs v) && is_once vs
