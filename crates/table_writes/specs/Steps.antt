-- What the steps of a branch come to.
use Rattle.std.specs.Prelude.{ℕ, ◌≡◌, ◌++◌, List}
use Rattle.std.specs.Ordering.{nat_cmp}
use Rattle.std.specs.BTreeMap.{is_at}
use Rattle.std.specs.Map.{keys_of, lookup}
use Rattle.std.specs.List.Sorted.{IsStrictlySortedBy}
use Rattle.version_nodes.specs.Nodes.{Node}
use Rattle.version_nodes.specs.Trees.{Ancestry, line}
use Rattle.version_marks.specs.Nearest.{nearest_on}
use Rattle.version_marks.specs.declared.near.Near.{Near}
use Rattle.table_content.specs.Content.{Content}
use Rattle.table_content.specs.Edits.{edited_all}
use Rattle.table_content.specs.Free.{AreFree}
use Rattle.table_content.specs.Branches.{with_nodes}
use Rattle.table_content.specs.declared.branches.SetNear.{SetNear}
use Rattle.table_content.specs.declared.edit.Edit.{Edit}
use Rattle.table_nodes.specs.Missing.{new_rows}

-- the rows of one more node come behind the others, by the first marks of its line
pub record AddsRows (c : Content) (u : Ancestry) (v : Node) (old new : List SetNear) : Type 0 where
  pub first : List (ℕ × Near)
  pub sorted : IsStrictlySortedBy nat_cmp (keys_of first)
  pub are : (k : ℕ) → lookup (is_at (nat_cmp k)) first ≡ nearest_on (c.found k) (c.fixed k) (line u v)
  pub added : new ≡ old ++ new_rows c v first

-- nothing stands in the way of the edits, and they put the content over this ancestry
pub record Makes (u : Ancestry) (edits : List Edit) (c : Content) : Type 0 where
  pub free : AreFree edits c
  pub made : edited_all edits c ≡ with_nodes u c
