-- The rows of nearest: one for each set and each node that sees a mark of it.
-- This project's own rule.
use Rattle.std.specs.Prelude.{ℕ, ℤ, pos, ◌==◌, ◌&&◌, Bool, List, [], ◌∷◌, Option, option_map, unwrap_or}
use Rattle.sqlite.specs.Edit.{id_in}
use Rattle.sqlite.specs.Order.{Row, column}
use Rattle.sqlite.specs.declared.types.Value.TheVariants.{Int, Text}
use Rattle.version_nodes.specs.Nodes.{Node, IsNode, node, same_node}
use Rattle.version_nodes.specs.declared.statuses.MarkKind.TheVariants.{Found}
use Rattle.version_marks.specs.declared.near.Near.{Near}
use Rattle.table_forms.specs.Numbers.{number_in}
use Rattle.table_encodings.specs.Encodings.{kind_number, kind_in}
use Rattle.table_schema.specs.Cells.{text_in}
use Rattle.table_schema.specs.LastRow.{last_row}

pub record NearestRow : Type 0 where
  pub id : ℤ
  pub key : ℕ
  pub node : Node
  pub near : Near

abbrev pub nearest_cells : NearestRow → Row
nearest_cells x =
    Int x.id ∷ Int (pos x.key) ∷ Text x.node.source ∷ Text x.node.version ∷ Text x.near.mark.source ∷ Text x.near.mark.version
    ∷ Int (pos (kind_number x.near.kind)) ∷ []

abbrev pub nearest_in : Row → NearestRow
nearest_in r = record {
  id = id_in (column r 0);
  key = number_in (column r 1);
  node = node (text_in (column r 2)) (text_in (column r 3));
  near = record {
    mark = node (text_in (column r 4)) (text_in (column r 5));
    kind = unwrap_or (kind_in (number_in (column r 6))) Found;
  };
}

-- its texts are nodes'
pub record IsNearestRow (x : NearestRow) : Type 0 where
  pub node : IsNode x.node
  pub mark : IsNode x.near.mark

-- whether the row is of the key and the node
abbrev pub is_of : ℕ → Node → NearestRow → Bool
is_of k v x = x.key == k && same_node x.node v

-- the nearest mark of a key's set as seen from a node: the last row counts
abbrev pub near_in : List NearestRow → ℕ → Node → Option Near
near_in xs k v = option_map (λ (x : NearestRow). x.near) (last_row (is_of k v) xs)
