-- Rows, as one goes down from the marks.
use Rattle.std.specs.Prelude.{◌≡◌, ◌||◌, ◌++◌, ℕ, Bool, List, [], ◌∷◌, Some, None, slice_get, if◌then◌else◌}
use Rattle.std.specs.BTreeMap.{BTreeMap, get}
use Rattle.std.specs.List.Sorted.{IsStrictlySortedBy}
use Rattle.version_nodes.specs.Nodes.{Node, node_cmp}
use Rattle.version_nodes.specs.Trees.{Ancestry, knows, has_node}
use Rattle.ancestry.specs.Links.{has_parent}
use Rattle.version_nodes.specs.Statuses.{kind_at}
use Rattle.version_nodes.specs.declared.statuses.MarkKind.{MarkKind}
use Rattle.version_marks.specs.declared.near.Near.{Near}
use Rattle.version_marks.specs.declared.near.NearRow.{NearRow}

abbrev pub is_marked : List Node → List Node → Node → Bool
is_marked found fixed v = has_node found v || has_node fixed v

-- the map has the marked nodes with what they are marked as, and no others
abbrev pub AreMarks : List Node → List Node → BTreeMap Node MarkKind → Type 0
AreMarks found fixed marks = (v : Node) → get node_cmp marks v ≡ (if is_marked found fixed v then Some (kind_at found v) else None)

-- the row of a node that sees this mark
abbrev pub row_of : Node → Node → MarkKind → NearRow
row_of v mark kind = record { node = v; near = record { mark = mark; kind = kind } }

-- the rows of those marked nodes that are known
abbrev pub rows_of_marks : Ancestry → List (Node × MarkKind) → List NearRow
rows_of_marks t [] = []
rows_of_marks t (m ∷ marks) = if knows t m.0 then row_of m.0 m.0 m.1 ∷ rows_of_marks t marks else rows_of_marks t marks

-- the rows of those of these nodes that pass no mark of their own
abbrev pub rows_below : (Node → Bool) → Near → List Node → List NearRow
rows_below marked near [] = []
rows_below marked near (c ∷ cs) = if marked c then rows_below marked near cs else row_of c near.mark near.kind ∷ rows_below marked near cs

-- the rows of the children of the row at a place come behind the others
pub record Step (t : Ancestry) (marked : Node → Bool) (rows : List NearRow) (place : ℕ) (rows' : List NearRow) : Type 0 where
  pub row : NearRow
  pub children : List Node
  pub at : slice_get rows place ≡ Some row
  pub sorted : IsStrictlySortedBy node_cmp children
  pub are : (c : Node) → has_node children c ≡ has_parent t c (Some row.node)
  pub made : rows' ≡ rows ++ rows_below marked row.near children
