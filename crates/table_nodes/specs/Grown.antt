-- What a branch changes in an ancestry.
-- This project's own rule.
use Rattle.std.specs.Prelude.{◌≡◌, ◌&&◌, ◌++◌, true, false, not, List, filter, Some, is_none, is_some}
use Rattle.version_nodes.specs.Nodes.{Node}
use Rattle.version_nodes.specs.Trees.{Ancestry, IsForest, has_node, known_at, knows, parent_of}
use Rattle.version_marks.specs.Nearest.{nearest_of}
use Rattle.version_marks.specs.declared.near.Near.{Near}

-- the nodes of a branch that are not known
abbrev pub unknown_of : Ancestry → List Node → List Node
unknown_of t nodes = filter (λ n. not (knows t n)) nodes

-- its known nodes without a parent
abbrev pub roots_of : Ancestry → List Node → List Node
roots_of t nodes = filter (λ n. knows t n && is_none (parent_of t n)) nodes

-- those of them that changed: each that was unknown, and each root that has a parent now
abbrev pub changed_of : Ancestry → List Node → List Node → List Node
changed_of u unknown roots = unknown ++ filter (λ n. is_some (parent_of u n)) roots

-- the ancestry u has grown out of t: these nodes changed, and a node that saw a mark sees it still
pub record IsGrown (t u : Ancestry) (changed : List Node) : Type 0 where
  pub forest : IsForest u
  pub others : (w : Node) → has_node changed w ≡ false → known_at u w ≡ known_at t w
  pub known : (w : Node) → has_node changed w ≡ true → knows u w ≡ true
  pub sees : (found fixed : List Node) (v : Node) (near : Near) →
      nearest_of t found fixed v ≡ Some near → nearest_of u found fixed v ≡ Some near
