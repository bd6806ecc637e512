-- The rows of marks: one for each node at which a set is marked found, and one for each at which it
-- is marked fixed.
-- This project's own rule.
use Rattle.std.specs.Prelude.{ℕ, ℤ, pos, ◌==◌, ◌&&◌, List, [], ◌∷◌, map, filter, unwrap_or}
use Rattle.sqlite.specs.Edit.{id_in}
use Rattle.sqlite.specs.Order.{Row, column}
use Rattle.sqlite.specs.declared.types.Value.TheVariants.{Int, Text}
use Rattle.version_nodes.specs.Nodes.{Node, IsNode, node}
use Rattle.version_nodes.specs.declared.statuses.MarkKind.{MarkKind}
use Rattle.version_nodes.specs.declared.statuses.MarkKind.TheVariants.{Found}
use Rattle.bug_record.specs.Marks.{with_node}
use Rattle.table_forms.specs.Numbers.{number_in}
use Rattle.table_encodings.specs.Encodings.{kind_number, kind_in}
use Rattle.table_schema.specs.Cells.{text_in}

pub record MarkRow : Type 0 where
  pub id : ℤ
  pub key : ℕ
  pub kind : MarkKind
  pub node : Node

abbrev pub mark_cells : MarkRow → Row
mark_cells x = Int x.id ∷ Int (pos x.key) ∷ Int (pos (kind_number x.kind)) ∷ Text x.node.source ∷ Text x.node.version ∷ []

abbrev pub mark_in : Row → MarkRow
mark_in r = record {
  id = id_in (column r 0);
  key = number_in (column r 1);
  kind = unwrap_or (kind_in (number_in (column r 2))) Found;
  node = node (text_in (column r 3)) (text_in (column r 4));
}

-- its texts are a node's
abbrev pub IsMarkRow : MarkRow → Type 0
IsMarkRow x = IsNode x.node

-- the nodes of a key's set that are marked as this kind, in the order of the rows
abbrev pub marked_as : MarkKind → ℕ → List MarkRow → List Node
marked_as kind k xs = map (λ (x : MarkRow). x.node) (filter (λ x. x.key == k && kind_number x.kind == kind_number kind) xs)

abbrev pub with_nodes : List Node → List Node → List Node
with_nodes ns [] = ns
with_nodes ns (v ∷ vs) = with_nodes (with_node ns v) vs

-- the same in node order
abbrev pub marks_in : MarkKind → List MarkRow → ℕ → List Node
marks_in kind xs k = with_nodes [] (marked_as kind k xs)
