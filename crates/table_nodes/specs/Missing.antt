-- The rows of nearest marks that are not there yet, as seen from some nodes.
-- This project's own rule.
use Rattle.std.specs.Prelude.{ℕ, ◌≡◌, ◌≤◌, List, [], ◌∷◌, None, is_some, if◌then◌else◌}
use Rattle.base_words.specs.declared.named.TheConstants.{LARGEST_NUMBER}
use Rattle.version_nodes.specs.Nodes.{Node}
use Rattle.version_nodes.specs.Trees.{Ancestry, has_node}
use Rattle.bug_record.specs.Sets.{Each}
use Rattle.version_marks.specs.Nearest.{nearest_of}
use Rattle.version_marks.specs.declared.near.Near.{Near}
use Rattle.table_content.specs.Content.{Content}
use Rattle.table_content.specs.Branches.{set_row_at, stand_once}
use Rattle.table_content.specs.declared.branches.SetNear.{SetNear}

-- the rows are those of these nodes over the ancestry u that the content has not, each once
pub record AreRowsOn (c : Content) (u : Ancestry) (nodes : List Node) (rows : List SetNear) : Type 0 where
  pub once : stand_once rows
  pub keys : Each (λ r. r.key ≤ LARGEST_NUMBER) rows
  pub here : (k : ℕ) (v : Node) → set_row_at rows k v
      ≡ (if has_node nodes v then (if is_some (c.near k v) then None else nearest_of u (c.found k) (c.fixed k) v) else None)

-- the row of the set of k and a node
abbrev pub set_near : ℕ → Node → Near → SetNear
set_near k v near = record { key = k; row = record { node = v; near = near } }

-- the rows of a node that the content has not, by the first mark of its line for each set
abbrev pub new_rows : Content → Node → List (ℕ × Near) → List SetNear
new_rows c v [] = []
new_rows c v (m ∷ first) = if is_some (c.near m.0 v) then new_rows c v first else set_near m.0 v m.1 ∷ new_rows c v first
