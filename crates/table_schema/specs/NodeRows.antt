-- The rows of nodes: one for each known node, with its parent or none.
-- This project's own rule.
use Rattle.std.specs.Prelude.{ℕ, ℤ, List, [], ◌∷◌, Option, option_map}
use Rattle.std.specs.BTreeMap.{insert_entry}
use Rattle.std.specs.Option.{option_and_then}
use Rattle.sqlite.specs.Edit.{id_in}
use Rattle.sqlite.specs.Order.{Row, column}
use Rattle.sqlite.specs.Values.{or_null}
use Rattle.sqlite.specs.declared.types.Value.TheVariants.{Int, Text}
use Rattle.version_nodes.specs.Nodes.{Node, IsNode, node, node_cmp}
use Rattle.version_nodes.specs.Trees.{Ancestry, no_nodes}
use Rattle.base_words.specs.Texts.{IfGiven}
use Rattle.table_schema.specs.Cells.{maybe_text, text_in}

pub record NodeRow : Type 0 where
  pub id : ℤ
  pub node : Node
  pub parent : Option Node

abbrev pub node_cells : NodeRow → Row
node_cells x =
    Int x.id ∷ Text x.node.source ∷ Text x.node.version ∷ or_null (λ (p : Node). Text p.source) x.parent ∷ or_null (λ (p : Node). Text p.version) x.parent ∷ []

-- the node of two cells, if both are texts
abbrev pub node_between : Option (List ℕ) → Option (List ℕ) → Option Node
node_between source version = option_and_then (λ s. option_map (node s) version) source

abbrev pub node_in : Row → NodeRow
node_in r = record {
  id = id_in (column r 0);
  node = node (text_in (column r 1)) (text_in (column r 2));
  parent = node_between (maybe_text (column r 3)) (maybe_text (column r 4));
}

-- its texts are nodes'
pub record IsNodeRow (x : NodeRow) : Type 0 where
  pub node : IsNode x.node
  pub parent : IfGiven IsNode x.parent

-- the nodes with their parents, put in one after another
abbrev pub with_links : Ancestry → List NodeRow → Ancestry
with_links t [] = t
with_links t (x ∷ xs) = with_links (insert_entry node_cmp t x.node x.parent) xs

abbrev pub nodes_in : List NodeRow → Ancestry
nodes_in xs = with_links no_nodes xs
