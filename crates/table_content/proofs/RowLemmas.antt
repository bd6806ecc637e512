-- The edits of an image, as `row_edits` has them.
use Rattle.std.proofs.Common.{◌≡◌, ℕ, Bool, true, false, List, ◌++◌, sym, ap, ◌∙◌, subst}
use Rattle.std.proofs.Common.{append-nil}
use Rattle.version_nodes.specs.Nodes.{Node}
use Rattle.version_nodes.specs.Trees.{Ancestry}
use Rattle.bug_record.specs.declared.bug.SetImage.{SetImage}
use Rattle.store_keys.specs.Keys.{key_of}
use Rattle.version_marks.specs.Nearest.{nearest_of, row_at, once}
use Rattle.version_marks.specs.declared.near.NearRow.{NearRow}
use Rattle.table_content.specs.Content.{Content}
use Rattle.table_content.specs.Edits.{edited_all}
use Rattle.table_content.specs.Free.{AreFree}
use Rattle.table_content.specs.EditLists.{drops, set_puts, all_mark_puts}
use Rattle.table_content.specs.Images.{same_marks, without_image, with_image, IsGoodImage, IsCleared}
use Rattle.table_content.specs.declared.edit.Edit.{Edit}
use Rattle.table_content.proofs.ClearLemmas.{cleared}
use Rattle.table_content.proofs.PutLemmas.{put_kept, put_new}
use Rattle.table_content.proofs.FreeLemmas.{free-append, drops_free, set_free, all_marks_free}

module _ (i : SetImage) (found fixed : List Node) (key : ℕ) (keeps : Bool) (is_key : key ≡ key_of i)
    (is_kept : keeps ≡ same_marks i found fixed) where
  pub clears : (edits : List Edit) → edits ≡ drops keeps key i.members → (c : Content)
      → edited_all edits c ≡ without_image (same_marks i found fixed) i c
  clears edits e c =
      ap (λ (es : List Edit). edited_all es c) e
      ∙ ap (λ (k : ℕ). edited_all (drops keeps k i.members) c) is_key
      ∙ ap (λ (t : Bool). edited_all (drops t (key_of i) i.members) c) is_kept
      ∙ cleared (same_marks i found fixed) i c

  pub puts_kept : (edits : List Edit) → edits ≡ set_puts i → keeps ≡ true → (c : Content) → IsGoodImage i
      → IsCleared (same_marks i found fixed) i c → edited_all edits c ≡ with_image i c
  puts_kept edits e kept c good clear =
      ap (λ (es : List Edit). edited_all es c) (e ∙ sym (append-nil (set_puts i)))
      ∙ put_kept i good c (subst (λ t. IsCleared t i c) (sym is_kept ∙ kept) clear)

  pub puts_new : (edits before : List Edit) (t : Ancestry) → before ≡ set_puts i → keeps ≡ false
      → (rows : List NearRow) × once rows × ((v : Node) → row_at rows v ≡ nearest_of t i.shared.found i.shared.fixed v)
      × (edits ≡ before ++ all_mark_puts i rows)
      → (c : Content) → c.nodes ≡ t → IsGoodImage i → IsCleared (same_marks i found fixed) i c → edited_all edits c ≡ with_image i c
  puts_new edits before t b new rows c tree good clear =
      ap (λ (es : List Edit). edited_all es c) (rows.3 ∙ ap (λ (es : List Edit). es ++ all_mark_puts i rows.0) b)
      ∙ put_new i good c (subst (λ t. IsCleared t i c) (sym is_kept ∙ new) clear) rows.0 rows.1
      (λ v. rows.2 v ∙ ap (λ (u : Ancestry). nearest_of u i.shared.found i.shared.fixed v) (sym tree))

  pub cleared_free : (edits : List Edit) → edits ≡ drops keeps key i.members → (c : Content) → IsGoodImage i → AreFree edits c
  cleared_free edits e c good = subst (λ (es : List Edit). AreFree es c) (sym e) (drops_free keeps key i.members c good.numbers)

  pub kept_free : (edits : List Edit) → edits ≡ set_puts i → (c : Content) → IsGoodImage i
      → IsCleared (same_marks i found fixed) i c → AreFree edits c
  kept_free edits e c good clear = subst (λ (es : List Edit). AreFree es c) (sym e) (set_free i good (same_marks i found fixed) c clear)

  pub new_free : (edits before : List Edit) (t : Ancestry) → before ≡ set_puts i → keeps ≡ false
      → (rows : List NearRow) × once rows × ((v : Node) → row_at rows v ≡ nearest_of t i.shared.found i.shared.fixed v)
      × (edits ≡ before ++ all_mark_puts i rows)
      → (c : Content) → IsGoodImage i → IsCleared (same_marks i found fixed) i c → AreFree edits c
  new_free edits before t b new rows c good clear =
      let cleared : IsCleared false i c = subst (λ u. IsCleared u i c) (sym is_kept ∙ new) clear in
      subst (λ (es : List Edit). AreFree es c) (sym (rows.3 ∙ ap (λ (es : List Edit). es ++ all_mark_puts i rows.0) b))
      (free-append (set_puts i) (all_mark_puts i rows.0) c (set_free i good false c cleared)
      (all_marks_free i good c cleared rows.0 rows.1))
