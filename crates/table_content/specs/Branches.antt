-- What a branch makes of a content: the nodes that become known or get a parent are put anew, and
-- the nearest marks that are seen for the first time are added.
-- This project's own rule.
use Rattle.std.specs.Prelude.{ℕ, ◌≡◌, ◌≤◌, ◌==◌, ◌&&◌, true, false, List, [], ◌∷◌, Option, Some, None, is_some, if◌then◌else◌, ⊤}
use Rattle.base_words.specs.declared.named.TheConstants.{LARGEST_NUMBER}
use Rattle.version_nodes.specs.Nodes.{Node, same_node}
use Rattle.version_nodes.specs.Trees.{Ancestry, IsForest, has_node, knows, known_at}
use Rattle.bug_record.specs.Sets.{Each}
use Rattle.version_marks.specs.Nearest.{nearest_of}
use Rattle.version_marks.specs.declared.near.Near.{Near}
use Rattle.table_content.specs.Content.{Content}
use Rattle.table_content.specs.declared.branches.SetNear.{SetNear}

-- the content over this ancestry, with the nearest marks there
abbrev pub with_nodes : Ancestry → Content → Content
with_nodes t c = record c { nodes = t; near = λ k. nearest_of t (c.found k) (c.fixed k) }

-- of all but the changed nodes the same is known as before, and these are known
pub record ChangesNodes (c : Content) (t : Ancestry) (changed : List Node) : Type 0 where
  pub forest : IsForest t
  pub others : (w : Node) → has_node changed w ≡ false → known_at t w ≡ known_at c.nodes w
  pub known : (w : Node) → has_node changed w ≡ true → knows t w ≡ true

-- the first of the rows for a set and a node
abbrev pub set_row_at : List SetNear → ℕ → Node → Option Near
set_row_at [] k v = None
set_row_at (r ∷ rows) k v = if (r.key == k) && same_node r.row.node v then Some r.row.near else set_row_at rows k v

-- no set and node have two rows
abbrev pub stand_once : List SetNear → Type 0
stand_once [] = ⊤
stand_once (r ∷ rows) = (set_row_at rows r.key r.row.node ≡ None) × stand_once rows

-- the rows are those that are not there yet, and what is there is right
pub record AreMissing (c : Content) (t : Ancestry) (rows : List SetNear) : Type 0 where
  pub once : stand_once rows
  pub keys : Each (λ r. r.key ≤ LARGEST_NUMBER) rows
  pub rows_are : (k : ℕ) (v : Node) →
      set_row_at rows k v ≡ (if is_some (c.near k v) then None else nearest_of t (c.found k) (c.fixed k) v)
  pub right : (k : ℕ) (v : Node) (near : Near) → c.near k v ≡ Some near → nearest_of t (c.found k) (c.fixed k) v ≡ Some near
