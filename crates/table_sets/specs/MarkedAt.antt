-- The marks of all sets at a node, in any order.
use Rattle.std.specs.Prelude.{◌≡◌, ◌==◌, ◌&&◌, ℕ, Bool, List}
use Rattle.std.specs.List.{list_any}
use Rattle.version_nodes.specs.Nodes.{Node}
use Rattle.version_nodes.specs.Trees.{has_node}
use Rattle.version_nodes.specs.declared.statuses.MarkKind.{MarkKind}
use Rattle.table_content.specs.Content.{Content}
use Rattle.table_encodings.specs.Encodings.{kind_number}
use Rattle.table_content.specs.Free.{marks_of}
use Rattle.table_sets.specs.declared.node_marks.SetMark.{SetMark}

-- whether the set of the key is marked so
abbrev pub has_mark : List SetMark → ℕ → MarkKind → Bool
has_mark ms k kind = list_any (λ m. m.key == k && kind_number m.kind == kind_number kind) ms

-- they are the marks of all sets at a node
abbrev pub AreMarksAt : Node → Content → List SetMark → Type 0
AreMarksAt v c ms = (k : ℕ) (kind : MarkKind) → has_mark ms k kind ≡ has_node (marks_of kind c k) v
