-- The links of nodes as an answer has them, in any order.
-- This project's own rule.
use Rattle.std.specs.Prelude.{◌≡◌, List, [], ◌∷◌, Option, map}
use Rattle.std.specs.List.{AllByRecursion}
use Rattle.std.specs.List.Sorted.{IsPermutation}
use Rattle.sqlite.specs.Order.{Row}
use Rattle.sqlite.specs.Values.{or_null}
use Rattle.sqlite.specs.declared.types.Value.TheVariants.{Text}
use Rattle.version_nodes.specs.Nodes.{Node, IsNode}
use Rattle.version_nodes.specs.Trees.{Ancestry}
use Rattle.base_words.specs.Texts.{IfGiven}

-- a row of a node with its parent, or with none, as an answer has it
abbrev pub link_row : Node × Option Node → Row
link_row l = Text l.0.source ∷ Text l.0.version ∷ or_null (λ (p : Node). Text p.source) l.1 ∷ or_null (λ (p : Node). Text p.version) l.1 ∷ []

-- its texts are nodes'
pub record IsLink (l : Node × Option Node) : Type 0 where
  pub node : IsNode l.0
  pub parent : IfGiven IsNode l.1

-- They are the links of an ancestry, in any order.
pub record AreLinksOf (t : Ancestry) (rows : List Row) : Type 0 where
  pub links : Ancestry
  pub are : rows ≡ map link_row links
  pub valid : AllByRecursion IsLink links
  pub same : IsPermutation t links
