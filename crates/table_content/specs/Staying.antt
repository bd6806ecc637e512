-- Images whose bugs are a set of tables already.
-- This project's own rule.
use Rattle.std.specs.Prelude.{ℕ, ◌≡◌, ◌≢◌, ◌==◌, true, false, not, List, [], filter, Some, None, ⊤}
use Rattle.version_nodes.specs.Nodes.{Node}
use Rattle.bug_record.specs.declared.bug.SetImage.{SetImage}
use Rattle.bug_record.specs.declared.bug.Shared.{Shared}
use Rattle.store_keys.specs.Keys.{key_of}
use Rattle.version_marks.specs.Nearest.{nearest_of}
use Rattle.table_content.specs.Content.{Content}
use Rattle.table_content.specs.Images.{is_member}
use Rattle.table_content.specs.View.{fields_of}
use Rattle.table_content.specs.declared.edit.Edit.{Edit}
use Rattle.table_content.specs.declared.edit.Edit.TheVariants as edits

-- nothing stands under this number
pub record HasNothing (c : Content) (k : ℕ) : Type 0 where
  pub fields : c.fields k ≡ None
  pub found : c.found k ≡ []
  pub fixed : c.fixed k ≡ []
  pub blockers : c.blockers k ≡ []
  pub affects : c.affects k ≡ []
  pub near : (v : Node) → c.near k v ≡ None

-- The image's bugs are the set of its key, with their titles and submitters; nothing stands under
-- the numbers of the others, and none of them is in another set.
pub record Stays (i : SetImage) (c : Content) : Type 0 where
  pub members : c.members (key_of i) ≡ i.members
  pub keys : (n : ℕ) → is_member i n ≡ true → c.key n ≡ Some (key_of i)
  pub others : (k : ℕ) → is_member i k ≡ true → (key_of i == k) ≡ false → HasNothing c k
  pub elsewhere : (k : ℕ) → (key_of i == k) ≡ false → filter (λ m. not (is_member i m.number)) (c.members k) ≡ c.members k

-- the nearest marks that stand under the image's key are those of these marks
abbrev pub HasNearest : SetImage → List Node → List Node → Content → Type 0
HasNearest i found fixed c = (v : Node) → c.near (key_of i) v ≡ nearest_of c.nodes found fixed v

-- these marks stand under the image's key
abbrev pub StandThere : SetImage → List Node → List Node → Content → Type 0
StandThere i found fixed c = (c.found (key_of i) ≡ found) × (c.fixed (key_of i) ≡ fixed)

-- what stands under the image's key, but for its bugs, is what these say
pub record HasRows (i : SetImage) (before : Shared) (c : Content) : Type 0 where
  pub marks : StandThere i before.found before.fixed c
  pub fields : c.fields (key_of i) ≡ Some (fields_of before)
  pub blockers : c.blockers (key_of i) ≡ before.blockers
  pub affects : c.affects (key_of i) ≡ before.affects

-- an edit of the fields, the blockers or the affected packages of a set is of some that differ
abbrev pub IsNeeded : Shared → Shared → Edit → Type 0
IsNeeded before after (edits.DropFields k) = fields_of before ≢ fields_of after
IsNeeded before after (edits.PutFields k f) = fields_of before ≢ fields_of after
IsNeeded before after (edits.DropBlockers k) = before.blockers ≢ after.blockers
IsNeeded before after (edits.PutBlocker k b) = before.blockers ≢ after.blockers
IsNeeded before after (edits.DropAffects k) = before.affects ≢ after.affects
IsNeeded before after (edits.PutAffects k n) = before.affects ≢ after.affects
IsNeeded before after _ = ⊤
