-- Links of which a tree is made at once.
-- This project's own rule.
use Rattle.std.specs.Prelude.{◌≡◌, true, List, Some}
use Rattle.version_nodes.specs.Nodes.{Node, IsNode}
use Rattle.version_nodes.specs.Trees.{Ancestry, knows, parent_of, IsLine}

-- from the node the parents lead to one that has none
abbrev pub HasLine : Ancestry → Node → Type 0
HasLine t n = (nodes : List Node) × IsLine t n nodes

-- a known node is one, its parent is known, and it has a line
pub record Stands (t : Ancestry) (n : Node) : Type 0 where
  pub known : knows t n ≡ true
  pub valid : IsNode n
  pub parent : (p : Node) → parent_of t n ≡ Some p → knows t p ≡ true
  pub line : HasLine t n
