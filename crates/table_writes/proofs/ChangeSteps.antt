-- What the steps of a change come to together.
use Rattle.std.proofs.Common.{◌≡◌, true≢false, List, Option, Some, None, Result, Ok, sym, ap, subst, ◌∙◌}
use Rattle.std.specs.Prelude.{⊤}
use Rattle.version_nodes.specs.Trees.{Ancestry}
use Rattle.bug_record.specs.declared.bug.SetImage.{SetImage}
use Rattle.bug_record.specs.declared.command.Change.{Change}
use Rattle.sqlite.specs.State.{State}
use Rattle.base_faults.specs.declared.store_fault.StoreFault.{StoreFault}
use Rattle.table_content.specs.Content.{Content}
use Rattle.table_content.specs.Changes.{FitsContent, changed, with_images, cleared_for}
use Rattle.table_content.specs.Edits.{edited_all}
use Rattle.table_content.specs.Free.{AreFree}
use Rattle.table_content.specs.Kept.{IsKeptContent}
use Rattle.table_content.specs.declared.image_edits.RowEdits.{RowEdits}
use Rattle.table_schema.specs.Steps.{Acts, PlaysAll, Reads}
use Rattle.table_schema.proofs.StepLemmas.{done, failed, none, acts_stop, acts_then, acts_weaker}
use Rattle.table_writes.specs.Needs.{IsTreeFor, HasTree, IsKnownIn}
use Rattle.table_writes.specs.Plans.{ArePlans, cleared_edits, put_edits}
use Rattle.table_writes.proofs.PlanLemmas.{all_over, first_free, then_free, come_to}

module _ (t : Ancestry) (change : Change) where
  -- the change fits what the tables say, and the tree is theirs
  abbrev pub Fits : Content → Type 0
  Fits c = IsKeptContent c × FitsContent c change × IsTreeFor t c change

  -- the sets of all images are written
  abbrev pub IsWritten : Content → Content → Type 0
  IsWritten c d = IsKeptContent c → FitsContent c change → IsTreeFor t c change → d ≡ with_images change.images (cleared_for c change)

  -- the images are planned, and what goes is gone
  abbrev pub IsCleared : List RowEdits → Content → Content → Type 0
  IsCleared plans c d = ArePlans c t change.images plans × (d ≡ edited_all (cleared_edits plans) c)

  -- and what comes has come
  abbrev pub IsPut : List RowEdits → Content → Content → Type 0
  IsPut plans c d = ArePlans c t change.images plans × (d ≡ edited_all (put_edits plans) (edited_all (cleared_edits plans) c))

  over : (c : Content) (plans : List RowEdits) → IsTreeFor t c change → ArePlans c t change.images plans → ArePlans c c.nodes change.images plans
  over c plans is all = all_over c t change.images plans is all

  module _ {A : Type 0} (items : A → List RowEdits) (plans : A) (old new : State) where
    abbrev planned : Result A StoreFault
    planned = Ok plans

    -- one after another, with what each of them answered
    pub cleared : (mid : State) (r : Result (Unit {0}) StoreFault) → Reads (λ c a. ArePlans c t change.images (items a)) old mid planned → PlaysAll (cleared_edits (items plans)) mid new r
        → Acts old new r Fits (λ c d _. IsCleared (items plans) c d)
    cleared mid r one two = acts_then old mid new plans (λ _. ⊤) (AreFree (cleared_edits (items plans))) Fits (λ c d a. (d ≡ c) × ArePlans c t change.images (items a)) (λ d e _. e ≡ edited_all (cleared_edits (items plans)) d) (λ c d _. IsCleared (items plans) c d) r
        (λ c fits. tt) (λ c d p fits. subst (AreFree (cleared_edits (items plans))) (sym p.0) (first_free c change fits.0 fits.1 (items plans) (over c (items plans) fits.2 p.1)))
        (λ c d e _ p q. (p.1, q ∙ ap (edited_all (cleared_edits (items plans))) p.0)) one two

  module _ (plans : List RowEdits) (old mid new : State) (r : Result (Unit {0}) StoreFault) where
    pub then_put : Acts old mid done Fits (λ c d _. IsCleared plans c d) → PlaysAll (put_edits plans) mid new r → Acts old new r Fits (λ c d _. IsPut plans c d)
    then_put one two = acts_then old mid new none Fits (AreFree (put_edits plans)) Fits (λ c d _. IsCleared plans c d) (λ d e _. e ≡ edited_all (put_edits plans) d) (λ c d _. IsPut plans c d) r
        (λ c fits. fits) (λ c d p fits. subst (AreFree (put_edits plans)) (sym p.1) (then_free c change fits.0 fits.1 plans (over c plans fits.2 p.0)))
        (λ c d e _ p q. (p.0, q ∙ ap (edited_all (put_edits plans)) p.1)) one two

    pub written : Acts old new r Fits (λ c d _. IsPut plans c d) → Acts old new r Fits (λ c d _. IsWritten c d)
    written one = acts_weaker old new r Fits Fits (λ c d _. IsPut plans c d) (λ c d _. IsWritten c d) (λ c fits. fits)
        (λ c d _ p kept fits is. p.1 ∙ come_to c change kept fits plans (over c plans is p.0)) one

  -- a step failed
  pub unmade : (old new : State) (fault : StoreFault) (P Q : Content → Content → Type 0) → Acts old new (failed fault) Fits (λ c d _. P c d) → Acts old new (failed fault) Fits (λ c d _. Q c d)
  unmade old new fault P Q one = acts_stop old new fault Fits Fits (λ c d _. P c d) (λ c d _. Q c d) (λ c fits. fits) one

  -- where an image may be known
  module _ (known : Option SetImage) where
    abbrev pub FitsKnown : Content → Type 0
    FitsKnown c = IsKeptContent c × FitsContent c change × IsTreeFor t c change × IsKnownIn known c

    abbrev pub IsMadeKnown : Content → Content → Type 0
    IsMadeKnown c d = IsKeptContent c → FitsContent c change → IsTreeFor t c change → IsKnownIn known c → d ≡ changed c change

    abbrev pub IsWrittenKnown : Content → Content → Type 0
    IsWrittenKnown c d = IsKeptContent c → FitsContent c change → IsTreeFor t c change → IsKnownIn known c → d ≡ with_images change.images (cleared_for c change)

    -- it need not be
    pub written_also : (old new : State) (r : Result (Unit {0}) StoreFault) → Acts old new r Fits (λ c d _. IsWritten c d) → Acts old new r FitsKnown (λ c d _. IsWrittenKnown c d)
    written_also old new r one = acts_weaker old new r Fits FitsKnown (λ c d _. IsWritten c d) (λ c d _. IsWrittenKnown c d) (λ c fits. (fits.0, fits.1, fits.2)) (λ c d _ p kept fits is _. p kept fits is) one

    pub then_next : (old mid new : State) (r : Result (Unit {0}) StoreFault) → Acts old mid done FitsKnown (λ c d _. IsWrittenKnown c d)
        → Acts mid new r (λ _. ⊤) (λ c d _. d ≡ record c { next = change.next }) → Acts old new r FitsKnown (λ c d _. IsMadeKnown c d)
    then_next old mid new r one two = acts_then old mid new none FitsKnown (λ _. ⊤) FitsKnown (λ c d _. IsWrittenKnown c d) (λ c d _. d ≡ record c { next = change.next }) (λ c d _. IsMadeKnown c d) r
        (λ c fits. fits) (λ c d p fits. tt)
        (λ c d e _ p q kept fits is knows. q ∙ ap (λ (k : Content). record k { next = change.next }) (p kept fits is knows)) one two

    -- a step failed
    pub unmade_known : (old new : State) (fault : StoreFault) (P Q : Content → Content → Type 0) → Acts old new (failed fault) FitsKnown (λ c d _. P c d) → Acts old new (failed fault) FitsKnown (λ c d _. Q c d)
    unmade_known old new fault P Q one = acts_stop old new fault FitsKnown FitsKnown (λ c d _. P c d) (λ c d _. Q c d) (λ c fits. fits) one

-- ---- over a tree, or none

module _ (change : Change) (known : Option SetImage) where
  abbrev pub MayBeMade : Option Ancestry → Content → Type 0
  MayBeMade tree c = IsKeptContent c × FitsContent c change × HasTree tree c change × IsKnownIn known c

  abbrev pub IsDone : Option Ancestry → Content → Content → Type 0
  IsDone tree c d = IsKeptContent c → FitsContent c change → HasTree tree c change → IsKnownIn known c → d ≡ changed c change

  pub made_over : (t : Ancestry) (old new : State) (r : Result (Unit {0}) StoreFault) → Acts old new r (FitsKnown t change known) (λ c d _. IsMadeKnown t change known c d)
      → Acts old new r (MayBeMade (Some t)) (λ c d _. IsDone (Some t) c d)
  made_over t old new r one = acts_weaker old new r (FitsKnown t change known) (MayBeMade (Some t)) (λ c d _. IsMadeKnown t change known c d) (λ c d _. IsDone (Some t) c d)
      (λ c fits. (fits.0, fits.1, (λ _. fits.2), fits.3)) (λ c d _ made kept fits is knows. made kept fits (λ _. is) knows) one

  no_need : (t : Ancestry) (c : Content) → HasTree None c change → IsTreeFor t c change
  no_need t c stay differs = absurd (true≢false (sym stay ∙ differs))

  pub made_without : (t : Ancestry) (old new : State) (r : Result (Unit {0}) StoreFault) → Acts old new r (FitsKnown t change known) (λ c d _. IsMadeKnown t change known c d)
      → Acts old new r (MayBeMade None) (λ c d _. IsDone None c d)
  made_without t old new r one = acts_weaker old new r (FitsKnown t change known) (MayBeMade None) (λ c d _. IsMadeKnown t change known c d) (λ c d _. IsDone None c d)
      (λ c fits. (fits.0, fits.1, no_need t c fits.2, fits.3)) (λ c d _ made kept fits stay knows. made kept fits (no_need t c stay) knows) one
