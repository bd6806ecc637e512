-- What the edits of a set whose bugs stay come to.
use Rattle.std.proofs.Common.{◌≡◌, ℕ, [], ◌∷◌, List, Option, Some, None, refl, Result, Ok, Err, IfOk, sym, ap, subst, ◌∙◌, Bool, true, false, ◌&&◌}
use Rattle.std.specs.Prelude.{⊤, IfSome, option_map}
use Rattle.std.proofs.lemmas.Option.{same_Some, none-some}
use Rattle.version_nodes.specs.Trees.{Ancestry}
use Rattle.bug_record.specs.Sets.{Each}
use Rattle.bug_record.specs.Images.{HasMember}
use Rattle.bug_record.specs.declared.bug.SetImage.{SetImage}
use Rattle.bug_record.specs.declared.bug.Shared.{Shared}
use Rattle.bug_record.specs.declared.command.Change.{Change}
use Rattle.base_faults.specs.declared.store_fault.StoreFault.{StoreFault}
use Rattle.sqlite.specs.State.{State}
use Rattle.store_keys.specs.Keys.{first_number, key_of}
use Rattle.table_content.specs.Content.{Content}
use Rattle.table_content.specs.Changes.{keeps_marks, without_images, with_images, cleared_for, FitsContent, all_stay}
use Rattle.table_content.specs.Edits.{edited_all}
use Rattle.table_content.specs.Free.{AreFree}
use Rattle.table_content.specs.Images.{same_marks, without_image, with_image, IsCleared, IsGoodImage}
use Rattle.table_content.specs.Kept.{IsKeptContent}
use Rattle.table_content.specs.Staying.{Stays, HasRows}
use Rattle.table_content.specs.View.{image, shared_of}
use Rattle.table_content.specs.declared.edit.Edit.{Edit}
use Rattle.table_content.specs.declared.edit.SetFields.{SetFields}
use Rattle.table_content.proofs.ReadyLemmas.{good, ready}
use Rattle.table_content.proofs.StandLemmas.{stand}
use Rattle.table_schema.specs.Steps.{Acts, PlaysAll, Reads}
use Rattle.table_schema.proofs.StepLemmas.{acts_none, acts_then, acts_weaker}
use Rattle.table_writes.specs.Needs.{IsTreeFor, IsKnownIn}
use Rattle.table_writes.specs.Plans.{IsStay, IsStayOf, IsStayPlan}
use Rattle.table_writes.proofs.ChangeSteps.{Fits, FitsKnown, IsWritten, IsWrittenKnown}

module _ (c : Content) (change : Change) (kept : IsKeptContent c) (fits : FitsContent c change) (i : SetImage) (only : change.images ≡ i ∷ []) where
  cleared_is : cleared_for c change ≡ without_image (keeps_marks c i) i c
  cleared_is = ap (λ (is : List SetImage). without_images c is c) only

  is_good : IsGoodImage i
  is_good = good c change kept fits [] i [] only

  is_clear : IsCleared (keeps_marks c i) i (without_image (keeps_marks c i) i c)
  is_clear = subst (λ (d : Content). IsCleared (keeps_marks c i) i d) cleared_is (ready c change kept fits [] i [] only)

  stays : c.members (key_of i) ≡ i.members → Stays i c
  stays are = stand c i kept (subst (λ (is : List SetImage). Each HasMember is) only fits.members).0 are

  rows : (t : Ancestry) (edits : List Edit) (plan : IsStayPlan c t i edits) → HasRows i (shared_of c (key_of i) plan.1.0) c
  rows t edits plan = record { marks = (refl, refl); fields = plan.1.1; blockers = refl; affects = refl }

  pub stay_free : (t : Ancestry) (edits : List Edit) → IsStayPlan c t i edits → AreFree edits c
  stay_free t edits plan = plan.1.2.free c (rows t edits plan) is_good (stays plan.0) is_clear

  pub stay_made : (t : Ancestry) (edits : List Edit) → IsTreeFor t c change → IsStayPlan c t i edits → edited_all edits c ≡ with_images change.images (cleared_for c change)
  stay_made t edits tree plan =
      plan.1.2.made c (λ differs. tree (ap (all_stay c) only ∙ ap (λ b. b && true) differs)) (kept.near (key_of i))
      (rows t edits plan) is_good (stays plan.0) is_clear
      ∙ ap (with_image i) (sym cleared_is)
      ∙ sym (ap (λ (is : List SetImage). with_images is (cleared_for c change)) only)

-- the rows of a set that is the set of its key say what its image says
parts_of : (c : Content) (k : ℕ) (i : SetImage) → image c k ≡ Some i
    → (f : SetFields) × (c.fields k ≡ Some f) × (shared_of c k f ≡ i.shared) × (c.members k ≡ i.members)
parts_of c k i = elim (c.fields k) as (λ o. option_map (λ f. let j : SetImage = record { shared = shared_of c k f; members = c.members k } in j) o ≡ Some i
    → (f : SetFields) × (o ≡ Some f) × (shared_of c k f ≡ i.shared) × (c.members k ≡ i.members)) [
      | None ↦ λ e. absurd (none-some i e)
      | Some f ↦ λ e. let is = same_Some _ _ e in (f, refl, ap (λ (j : SetImage). j.shared) is, ap (λ (j : SetImage). j.members) is)
    ]

-- an image that is known stands under its key, and so do the bugs and the shared fields of it
pub known_stays : (t : Ancestry) (i old : SetImage) (edits : List Edit) → IsStay t old.shared i edits → old.members ≡ i.members
    → (c : Content) → image c (key_of old) ≡ Some old → IsStayPlan c t i edits
known_stays t i old edits stay same c here =
    let p = parts_of c (key_of old) old here in
    let k : key_of old ≡ key_of i = ap first_number same in (
      ap c.members (sym k) ∙ p.3 ∙ same,
      (
        p.0,
        ap c.fields (sym k) ∙ p.1,
        subst (λ j. IsStay t (shared_of c j p.0) i edits) k (subst (λ (s : Shared). IsStay t s i edits) (sym p.2) stay),
      ),
    )

-- the shared fields that were read are those that stand
pub stands_read : (t : Ancestry) (i : SetImage) (before : Shared) (fields : SetFields) (key : ℕ) (r : Result (List Edit) StoreFault) → key ≡ key_of i → IfOk r (λ (es : List Edit). IsStay t before i es)
    → (c : Content) → before ≡ shared_of c key fields → IfOk r (λ (es : List Edit). c.fields (key_of i) ≡ Some fields → IsStayOf c t i es)
stands_read t i before fields key (Err fault) is_key stay c are = tt
stands_read t i before fields key (Ok es) is_key stay c are = λ there. (
  fields,
  there,
  subst (λ j. IsStay t (shared_of c j fields) i es) is_key (subst (λ (s : Shared). IsStay t s i es) are stay),
)

-- and its bugs stand there
pub with_bugs : (c : Content) (t : Ancestry) (i : SetImage) (p : Option (List Edit)) → c.members (key_of i) ≡ i.members → IfSome p (λ (es : List Edit). IsStayOf c t i es)
    → IfSome p (λ (es : List Edit). IsStayPlan c t i es)
with_bugs c t i None bugs stay = tt
with_bugs c t i (Some es) bugs stay = (bugs, stay)

-- and so do the marks, if there is no other image
pub known_keeps : (i old : SetImage) (is : List SetImage) → is ≡ i ∷ [] → key_of i ≡ key_of old → (c : Content) → image c (key_of old) ≡ Some old
    → same_marks i old.shared.found old.shared.fixed ≡ all_stay c is
known_keeps i old is only own c here =
    let p = parts_of c (key_of old) old here in
    sym (ap (all_stay c) only
    ∙ alone (keeps_marks c i)
    ∙ ap (λ vs. same_marks i vs (c.fixed (key_of i))) (ap c.found own ∙ ap (λ (s : Shared). s.found) p.2)
    ∙ ap (λ vs. same_marks i old.shared.found vs) (ap c.fixed own ∙ ap (λ (s : Shared). s.fixed) p.2))
  where
    alone : (b : Bool) → (b && true) ≡ b
    alone true = refl
    alone false = refl

module _ (t : Ancestry) (i : SetImage) (known : Option SetImage) where
  -- the edits where the image that is known has its bugs, or is not asked
  abbrev pub IsPlanKnown : Content → Option (List Edit) → Type 0
  IsPlanKnown c p = IsKnownIn known c → IfSome p (λ (es : List Edit). IsStayPlan c t i es)

  -- nothing is read
  pub plan_known : (s : State) (p : Option (List Edit)) → IfSome p (λ (es : List Edit). (c : Content) → IsKnownIn known c → IsStayPlan c t i es) → Reads IsPlanKnown s s (Ok p)
  plan_known s p is = acts_none s p (λ _. ⊤) (λ c d q. (d ≡ c) × IsPlanKnown c q) (λ c. (refl, λ knows. at c knows p is))
    where
      at : (c : Content) → IsKnownIn known c → (p : Option (List Edit)) → IfSome p (λ (es : List Edit). (c : Content) → IsKnownIn known c → IsStayPlan c t i es) → IfSome p (λ (es : List Edit). IsStayPlan c t i es)
      at c knows None is = tt
      at c knows (Some es) is = is c knows

  pub plan_read : (old new : State) (r : Result (Option (List Edit)) StoreFault) → Reads (λ c p. IfSome p (λ (es : List Edit). IsStayPlan c t i es)) old new r → Reads IsPlanKnown old new r
  plan_read old new r one = acts_weaker old new r (λ _. ⊤) (λ _. ⊤) (λ c d p. (d ≡ c) × IfSome p (λ (es : List Edit). IsStayPlan c t i es)) (λ c d p. (d ≡ c) × IsPlanKnown c p)
      (λ c _. tt) (λ c d p h. (h.0, λ _. h.1)) one

module _ (t : Ancestry) (change : Change) (i : SetImage) (known : Option SetImage) (plan : Option (List Edit)) (old mid new : State) (r : Result (Unit {0}) StoreFault) (one : Reads (IsPlanKnown t i known) old mid (Ok plan)) where
  -- the set of the only image stays, and its edits are played
  pub stayed : (only : change.images ≡ i ∷ []) (edits : List Edit) → plan ≡ Some edits → PlaysAll edits mid new r
      → Acts old new r (FitsKnown t change known) (λ c d _. IsWrittenKnown t change known c d)
  stayed only edits is two =
      acts_then old mid new plan (λ _. ⊤) (AreFree edits) (FitsKnown t change known) (λ c d p. (d ≡ c) × IsPlanKnown t i known c p) (λ d e _. e ≡ edited_all edits d)
      (λ c d _. IsWrittenKnown t change known c d) r
      (λ c fits. tt)
      (λ c d p fits. subst (AreFree edits) (sym p.0) (stay_free c change fits.0 fits.1 i only t edits (some c (p.1 fits.3))))
      (λ c d e _ p q kept fits tree knows. q ∙ ap (edited_all edits) p.0 ∙ stay_made c change kept fits i only t edits tree (some c (p.1 knows)))
      one two
    where
      some : (c : Content) → IfSome plan (λ (es : List Edit). IsStayPlan c t i es) → IsStayPlan c t i edits
      some c p = subst (λ (o : Option (List Edit)). IfSome o (λ (es : List Edit). IsStayPlan c t i es)) is p

  -- it does not stay, and is written anew
  pub not_stayed : Acts mid new r (Fits t change) (λ c d _. IsWritten t change c d) → Acts old new r (FitsKnown t change known) (λ c d _. IsWrittenKnown t change known c d)
  not_stayed two =
      acts_then old mid new plan (λ _. ⊤) (Fits t change) (FitsKnown t change known) (λ c d p. (d ≡ c) × IsPlanKnown t i known c p) (λ c d _. IsWritten t change c d)
      (λ c d _. IsWrittenKnown t change known c d) r
      (λ c fits. tt)
      (λ c d p fits. subst (Fits t change) (sym p.0) (fits.0, fits.1, fits.2))
      (λ c d e _ p q kept fits tree knows. subst (λ (x : Content). IsWritten t change x e) p.0 q kept fits tree)
      one two
