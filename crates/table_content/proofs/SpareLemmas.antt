-- What edits make of a content without those of rows that are the same.
use Rattle.std.proofs.Common.{◌≡◌, ℕ, Bool, true, false, cond, List, [], ◌∷◌, Some, None, sym, refl, ap, ◌∙◌, subst}
use Rattle.std.specs.Prelude.{not, ◌==◌}
use Rattle.std.proofs.lemmas.Bool.{eqb-true, false≢true}
use Rattle.version_nodes.specs.declared.statuses.MarkKind.TheVariants.{Found, Fixed}
use Rattle.bug_record.specs.Sets.{Each}
use Rattle.bug_record.specs.declared.bug.SetImage.{SetImage}
use Rattle.bug_record.specs.declared.bug.Shared.{Shared}
use Rattle.store_keys.specs.Keys.{key_of}
use Rattle.table_content.specs.Content.{Content}
use Rattle.table_content.specs.Edits.{put_at, edited, edited_all}
use Rattle.table_content.specs.Free.{IsFree, AreFree}
use Rattle.table_content.specs.Images.{is_member, without_image, with_image}
use Rattle.table_content.specs.Sparing.{is_spared, spared}
use Rattle.table_content.specs.Staying.{Stays, HasRows, IsNeeded}
use Rattle.table_content.specs.View.{fields_of}
use Rattle.table_content.specs.declared.edit.Edit.{Edit}
use Rattle.table_content.specs.declared.edit.Edit.TheVariants as edits
use Rattle.table_content.specs.declared.sparing.SameRows.{SameRows}

-- rows that are the same stay as they were in this content
module _ (was : Content) where
  abbrev pub as_was : Bool → Bool → Bool → Content → Content
  as_was x y z c = record c {
    fields = cond x was.fields c.fields;
    blockers = cond y was.blockers c.blockers;
    affects = cond z was.affects c.affects;
  }

  -- an edit of them leaves nothing
  left_out : (x y z : Bool) (e : Edit) (c : Content) → is_spared (record { fields = x; blockers = y; affects = z }) e ≡ true
      → as_was x y z (edited e c) ≡ as_was x y z c
  left_out true y z (edits.DropFields k) c h = refl
  left_out false y z (edits.DropFields k) c h = absurd (false≢true h)
  left_out true y z (edits.PutFields k f) c h = refl
  left_out false y z (edits.PutFields k f) c h = absurd (false≢true h)
  left_out x true z (edits.DropBlockers k) c h = refl
  left_out x false z (edits.DropBlockers k) c h = absurd (false≢true h)
  left_out x true z (edits.PutBlocker k b) c h = refl
  left_out x false z (edits.PutBlocker k b) c h = absurd (false≢true h)
  left_out x y true (edits.DropAffects k) c h = refl
  left_out x y false (edits.DropAffects k) c h = absurd (false≢true h)
  left_out x y true (edits.PutAffects k n) c h = refl
  left_out x y false (edits.PutAffects k n) c h = absurd (false≢true h)
  left_out x y z _ c h = absurd (false≢true h)

  -- another edit makes the same beside them
  beside : (x y z : Bool) (e : Edit) (c : Content) → is_spared (record { fields = x; blockers = y; affects = z }) e ≡ false
      → edited e (as_was x y z c) ≡ as_was x y z (edited e c)
  beside true y z (edits.DropFields k) c h = absurd (false≢true (sym h))
  beside false y z (edits.DropFields k) c h = refl
  beside true y z (edits.PutFields k f) c h = absurd (false≢true (sym h))
  beside false y z (edits.PutFields k f) c h = refl
  beside x true z (edits.DropBlockers k) c h = absurd (false≢true (sym h))
  beside x false z (edits.DropBlockers k) c h = refl
  beside x true z (edits.PutBlocker k b) c h = absurd (false≢true (sym h))
  beside x false z (edits.PutBlocker k b) c h = refl
  beside x y true (edits.DropAffects k) c h = absurd (false≢true (sym h))
  beside x y false (edits.DropAffects k) c h = refl
  beside x y true (edits.PutAffects k n) c h = absurd (false≢true (sym h))
  beside x y false (edits.PutAffects k n) c h = refl
  beside x y z (edits.PutMark k Found v) c h = refl
  beside x y z (edits.PutMark k Fixed v) c h = refl
  beside x y z _ c h = refl

  -- and is as free
  as_free : (x y z : Bool) (e : Edit) (c : Content) → is_spared (record { fields = x; blockers = y; affects = z }) e ≡ false
      → IsFree e c → IsFree e (as_was x y z c)
  as_free true y z (edits.PutFields k f) c h free = absurd (false≢true (sym h))
  as_free false y z (edits.PutFields k f) c h free = free
  as_free x true z (edits.PutBlocker k b) c h free = absurd (false≢true (sym h))
  as_free x false z (edits.PutBlocker k b) c h free = free
  as_free x y true (edits.PutAffects k n) c h free = absurd (false≢true (sym h))
  as_free x y false (edits.PutAffects k n) c h free = free
  as_free x y z (edits.PutMark k Found v) c h free = free
  as_free x y z (edits.PutMark k Fixed v) c h free = free
  as_free x y z _ c h free = free

  module _ (same : SameRows) where
    abbrev kept : Content → Content
    kept c = as_was same.fields same.blockers same.affects c

    spared_all : (es : List Edit) (c : Content) → edited_all (spared same es) (kept c) ≡ kept (edited_all es c)
    spared_all [] c = refl
    spared_all (e ∷ es) c = elim (is_spared same e) as (λ t. is_spared same e ≡ t
        → edited_all (cond (not t) (e ∷ spared same es) (spared same es)) (kept c) ≡ kept (edited_all es (edited e c))) [
          | true ↦ λ h.
              ap (edited_all (spared same es)) (sym (left_out same.fields same.blockers same.affects e c h))
              ∙ spared_all es (edited e c)
          | false ↦ λ h.
              ap (edited_all (spared same es)) (beside same.fields same.blockers same.affects e c h) ∙ spared_all es (edited e c)
        ] refl

    spared_free : (es : List Edit) (c : Content) → AreFree es c → AreFree (spared same es) (kept c)
    spared_free [] c free = tt
    spared_free (e ∷ es) c free = elim (is_spared same e) as (λ t. is_spared same e ≡ t
        → AreFree (cond (not t) (e ∷ spared same es) (spared same es)) (kept c)) [
          | true ↦ λ h. subst (λ (d : Content). AreFree (spared same es) d)
              (left_out same.fields same.blockers same.affects e c h) (spared_free es (edited e c) free.1)
          | false ↦ λ h. (
            as_free same.fields same.blockers same.affects e c h free.0,
            subst (λ (d : Content). AreFree (spared same es) d) (sym (beside same.fields same.blockers same.affects e c h))
                (spared_free es (edited e c) free.1),
          )
        ] refl

-- ---- rows that stood

chosen : {A : Type 0} (b : Bool) (x y : A) → (b ≡ true → x ≡ y) → cond b x y ≡ y
chosen true x y h = h refl
chosen false x y h = refl

as_it_was : (c : Content) (x y z : Bool) → as_was c x y z c ≡ c
as_it_was c x y z = λ p. record c {
  fields = chosen x c.fields c.fields (λ _. refl) p;
  blockers = chosen y c.blockers c.blockers (λ _. refl) p;
  affects = chosen z c.affects c.affects (λ _. refl) p;
}

-- what stands under the key of an image comes again, and nothing stood under the other numbers
module _ (i : SetImage) {A : Type 0} (none some : A) (f : ℕ → A) (others : (j : ℕ) → is_member i j ≡ true → (key_of i == j) ≡ false → f j ≡ none)
    (own : f (key_of i) ≡ some) where
  stood : (j : ℕ) → f j ≡ put_at (key_of i) some (λ n. cond (is_member i n) none (f n)) j
  stood j =
      elim (key_of i == j) as (λ t. (key_of i == j) ≡ t → f j ≡ cond t some (cond (is_member i j) none (f j))) [
        | true ↦ λ e. ap f (sym (eqb-true (key_of i) j e)) ∙ own
        | false ↦ λ e. elim (is_member i j) as (λ m. is_member i j ≡ m → f j ≡ cond m none (f j)) [ true ↦ λ m. others j m e | false ↦ λ m. refl ] refl
      ] refl

-- ---- the edits of an image, as `stay_edits` has them

module _ (i : SetImage) (before : Shared) (c : Content) (marks : Bool) (same : SameRows) (es : List Edit) where
  pub rows_spared : edited_all es c ≡ with_image i (without_image marks i c) → Stays i c → HasRows i before c
      → (same.fields ≡ true → fields_of before ≡ fields_of i.shared) → (same.blockers ≡ true → before.blockers ≡ i.shared.blockers)
      → (same.affects ≡ true → before.affects ≡ i.shared.affects) → edited_all (spared same es) c ≡ with_image i (without_image marks i c)
  rows_spared made stays has fields blockers affects =
      let made_of : Content = with_image i (without_image marks i c) in
      ap (edited_all (spared same es)) (sym (as_it_was c same.fields same.blockers same.affects))
      ∙ spared_all c same es c
      ∙ ap (as_was c same.fields same.blockers same.affects) made
      ∙ (λ p. record made_of {
        fields = chosen same.fields c.fields made_of.fields (λ h q j. stood i None (Some (fields_of i.shared)) c.fields
            (λ j m e. (stays.others j m e).fields) (has.fields ∙ ap Some (fields h)) j q) p;
        blockers = chosen same.blockers c.blockers made_of.blockers (λ h q j. stood i [] i.shared.blockers c.blockers
            (λ j m e. (stays.others j m e).blockers) (has.blockers ∙ blockers h) j q) p;
        affects = chosen same.affects c.affects made_of.affects (λ h q j. stood i [] i.shared.affects c.affects
            (λ j m e. (stays.others j m e).affects) (has.affects ∙ affects h) j q) p;
      })

-- they are as free, whatever stood
module _ (c : Content) (same : SameRows) (es : List Edit) where
  pub rows_spared_free : AreFree es c → AreFree (spared same es) c
  rows_spared_free free = subst (λ (d : Content). AreFree (spared same es) d) (as_it_was c same.fields same.blockers same.affects)
      (spared_free c same es c free)

-- no edit is left but of rows that differ
module _ (before after : Shared) (same : SameRows) (fields : fields_of before ≡ fields_of after → same.fields ≡ true)
    (blockers : before.blockers ≡ after.blockers → same.blockers ≡ true) (affects : before.affects ≡ after.affects → same.affects ≡ true) where
  needed : (e : Edit) → is_spared same e ≡ false → IsNeeded before after e
  needed (edits.DropFields k) h = λ e. false≢true (sym h ∙ fields e)
  needed (edits.PutFields k f) h = λ e. false≢true (sym h ∙ fields e)
  needed (edits.DropBlockers k) h = λ e. false≢true (sym h ∙ blockers e)
  needed (edits.PutBlocker k b) h = λ e. false≢true (sym h ∙ blockers e)
  needed (edits.DropAffects k) h = λ e. false≢true (sym h ∙ affects e)
  needed (edits.PutAffects k n) h = λ e. false≢true (sym h ∙ affects e)
  needed _ h = tt

  pub all_needed : (es : List Edit) → Each (IsNeeded before after) (spared same es)
  all_needed [] = tt
  all_needed (e ∷ es) = elim (is_spared same e) as (λ t. is_spared same e ≡ t
      → Each (IsNeeded before after) (cond (not t) (e ∷ spared same es) (spared same es)))
      [ true ↦ λ h. all_needed es | false ↦ λ h. (needed e h, all_needed es) ] refl
