-- The edits of images, as the rows stand before a change.
use Rattle.std.specs.Prelude.{◌≡◌, false, List, [], ◌∷◌, Some, flat_map, ⊤}
use Rattle.version_nodes.specs.Nodes.{Node}
use Rattle.version_nodes.specs.Trees.{Ancestry}
use Rattle.bug_record.specs.Sets.{Each}
use Rattle.bug_record.specs.declared.bug.SetImage.{SetImage}
use Rattle.bug_record.specs.declared.bug.Shared.{Shared}
use Rattle.store_keys.specs.Keys.{key_of}
use Rattle.table_content.specs.Content.{Content}
use Rattle.table_content.specs.Edits.{edited_all}
use Rattle.table_content.specs.Free.{AreFree}
use Rattle.table_content.specs.Images.{same_marks, without_image, with_image, IsCleared, IsGoodImage}
use Rattle.table_content.specs.Staying.{Stays, HasNearest, HasRows, IsNeeded}
use Rattle.table_content.specs.View.{shared_of}
use Rattle.table_content.specs.declared.edit.Edit.{Edit}
use Rattle.table_content.specs.declared.edit.SetFields.{SetFields}
use Rattle.table_content.specs.declared.image_edits.RowEdits.{RowEdits}

-- the edits that put an image, where these marks stand under its key
pub record IsPlan (t : Ancestry) (found fixed : List Node) (i : SetImage) (plan : RowEdits) : Type 0 where
  pub cleared : (c : Content) → edited_all plan.cleared c ≡ without_image (same_marks i found fixed) i c
  pub put : (c : Content) → (same_marks i found fixed ≡ false → c.nodes ≡ t) → IsGoodImage i → IsCleared (same_marks i found fixed) i c → edited_all plan.put c ≡ with_image i c
  pub free : (c : Content) → IsGoodImage i → AreFree plan.cleared c
  pub put_free : (c : Content) → IsGoodImage i → IsCleared (same_marks i found fixed) i c → AreFree plan.put c

-- as the marks of the content are
abbrev pub IsPlanOf : Content → Ancestry → SetImage → RowEdits → Type 0
IsPlanOf before t i plan = IsPlan t (before.found (key_of i)) (before.fixed (key_of i)) i plan

-- one plan for each image
abbrev pub ArePlans : Content → Ancestry → List SetImage → List RowEdits → Type 0
ArePlans before t [] [] = ⊤
ArePlans before t [] (plan ∷ plans) = ⊥
ArePlans before t (i ∷ is) [] = ⊥
ArePlans before t (i ∷ is) (plan ∷ plans) = IsPlanOf before t i plan × ArePlans before t is plans

abbrev pub cleared_edits : List RowEdits → List Edit
cleared_edits plans = flat_map (λ plan. plan.cleared) plans

abbrev pub put_edits : List RowEdits → List Edit
put_edits plans = flat_map (λ plan. plan.put) plans

-- the edits of an image whose bugs stay, where these shared fields stand under its key: they make
-- what clearing all its rows and putting them again makes, and write no row of fields, blockers or
-- affected packages that is the same
pub record IsStay (t : Ancestry) (before : Shared) (i : SetImage) (edits : List Edit) : Type 0 where
  pub made : (c : Content) → (same_marks i before.found before.fixed ≡ false → c.nodes ≡ t) → HasNearest i before.found before.fixed c → HasRows i before c → IsGoodImage i → Stays i c
      → IsCleared (same_marks i before.found before.fixed) i (without_image (same_marks i before.found before.fixed) i c)
      → edited_all edits c ≡ with_image i (without_image (same_marks i before.found before.fixed) i c)
  pub free : (c : Content) → HasRows i before c → IsGoodImage i → Stays i c → IsCleared (same_marks i before.found before.fixed) i (without_image (same_marks i before.found before.fixed) i c) → AreFree edits c
  pub needed : Each (IsNeeded before i.shared) edits

-- as the rows of the content are
abbrev pub IsStayOf : Content → Ancestry → SetImage → List Edit → Type 0
IsStayOf before t i edits = (fields : SetFields) × (before.fields (key_of i) ≡ Some fields) × IsStay t (shared_of before (key_of i) fields) i edits

-- and its bugs stand under the image's key
abbrev pub IsStayPlan : Content → Ancestry → SetImage → List Edit → Type 0
IsStayPlan c t i edits = (c.members (key_of i) ≡ i.members) × IsStayOf c t i edits
