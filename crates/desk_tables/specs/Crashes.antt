-- What the trees of a desk hold after a branch, and what a crash leaves.
use Rattle.std.specs.Prelude.{◌≡◌, ◌⊎◌, List, Ok}
use Rattle.sqlite.specs.State.{State}
use Rattle.sqlite.specs.Tree.{Trees}
use Rattle.version_nodes.specs.Branches.{branched}
use Rattle.version_nodes.specs.Nodes.{Node}
use Rattle.version_nodes.specs.Trees.{Ancestry, IsForest}
use Rattle.table_content.specs.Branches.{with_nodes}
use Rattle.table_content.specs.Content.{Content}
use Rattle.table_content.specs.Kept.{IsKeptContent}
use Rattle.table_content.specs.View.{desk_in, keeping_in}
use Rattle.store_contract.specs.Crashes.{Holding}
use Rattle.table_opening.specs.Shown.{AreTablesOf}

-- these trees, with the desk's schema, are a desk with this content over the ancestry after a
-- branch
pub record AreTablesAfter (c : Content) (nodes : List Node) (db : Trees) : Type 0 where
  pub ancestry : Ancestry
  pub taken : branched c.nodes nodes ≡ Ok ancestry
  pub forest : IsForest ancestry
  pub tables : AreTablesOf (with_nodes ancestry c) db

-- these trees, with the desk's schema, are a desk that is kept, and that holds this
pub record AreTablesHolding (x : Holding) (db : Trees) : Type 0 where
  pub content : Content
  pub tables : AreTablesOf content db
  pub kept : IsKeptContent content
  pub same : (desk_in content, keeping_in content) ≡ x

-- a crash at this moment leaves a desk that holds the first or the second
abbrev pub LeavesOf : State → Holding → Holding → Type 0
LeavesOf s a b = (db : Trees) → s.may_leave db → AreTablesHolding a db ⊎ AreTablesHolding b db
