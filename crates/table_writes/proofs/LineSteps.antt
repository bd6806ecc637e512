-- What the steps that keep an outcome come to together.
use Rattle.std.proofs.Common.{◌≡◌, ℕ, List, Option, Some, None, Result, sym, ap, subst, ◌∙◌}
use Rattle.sqlite.specs.State.{State}
use Rattle.version_nodes.specs.Trees.{Ancestry}
use Rattle.bug_record.specs.declared.bug.SetImage.{SetImage}
use Rattle.bug_record.specs.declared.command.Change.{Change}
use Rattle.bug_record.specs.declared.outcome.Outcome.{Outcome}
use Rattle.base_faults.specs.declared.store_fault.StoreFault.{StoreFault}
use Rattle.base_faults.specs.declared.store_fault.StoreFault.TheVariants.{Memory}
use Rattle.store_contract.specs.Kept.{Keeping, IsOfMessage}
use Rattle.table_content.specs.Changes.{FitsContent, changed}
use Rattle.table_content.specs.Content.{Content}
use Rattle.table_content.specs.Edits.{edited_all}
use Rattle.table_content.specs.Free.{AreFree}
use Rattle.table_content.specs.KeptOutcomes.{MayBePut, kept_after, with_kept}
use Rattle.table_content.specs.Kept.{IsKeptContent}
use Rattle.table_content.specs.declared.edit.Edit.{Edit}
use Rattle.table_content.proofs.ChangeLemmas.{change_kept}
use Rattle.table_content.proofs.KeepLemmas.{change_keeping}
use Rattle.table_schema.specs.Steps.{Acts, PlaysAll}
use Rattle.table_schema.proofs.StepLemmas.{none, done, failed, acts_stop, acts_then, acts_unable, acts_weaker}
use Rattle.table_writes.specs.Needs.{HasTree, HasTreeIfAny, IsKnownIn, IsNextPlace}
use Rattle.table_writes.specs.Lines.{IsLine, AreEditsOf}
use Rattle.table_writes.proofs.PlaceLemmas.{place_after}

module _ (id sender message : List ℕ) (place : ℕ) (outcome : Outcome) where
  -- the outcome may be kept at this place
  abbrev pub FitsAt : Content → Type 0
  FitsAt c = IsLine id sender message outcome c × IsNextPlace id place c

  abbrev pub Keeps : Content → Content → Type 0
  Keeps c d = IsLine id sender message outcome c → IsNextPlace id place c → d ≡ with_kept id sender message outcome c

  -- its edits are played
  pub line_put : (old new : State) (edits : List Edit) (r : Result (Unit {0}) StoreFault) → AreEditsOf id sender message place outcome edits → PlaysAll edits old new r → Acts old new r FitsAt (λ c d _. Keeps c d)
  line_put old new edits r are plays =
      acts_weaker old new r (AreFree edits) FitsAt (λ c d _. d ≡ edited_all edits c) (λ c d _. Keeps c d)
      (λ c fits. are.free c fits.0 fits.1) (λ c d _ p line is. p ∙ are.put c line is) plays

  -- there was no memory for them
  pub line_failed : (s : State) (fault : StoreFault) → fault ≡ Memory → Acts s s (failed fault) FitsAt (λ c d _. Keeps c d)
  line_failed s fault is = acts_unable s fault FitsAt (λ c d _. Keeps c d) is

  -- ---- with a change

  abbrev pub FitsLine : Option SetImage → Option Ancestry → Option Change → Content → Type 0
  FitsLine known t change c = IsKeptContent c × MayBePut id sender message outcome change c × HasTreeIfAny t c change × IsKnownIn known c × IsNextPlace id place c

  abbrev pub IsAfter : Option SetImage → Option Ancestry → Option Change → Content → Content → Type 0
  IsAfter known t change c d = IsKeptContent c → MayBePut id sender message outcome change c → HasTreeIfAny t c change → IsKnownIn known c → IsNextPlace id place c → d ≡ kept_after id sender message outcome change c

  -- without one
  pub alone : (old new : State) (known : Option SetImage) (t : Option Ancestry) (r : Result (Unit {0}) StoreFault) → Acts old new r FitsAt (λ c d _. Keeps c d)
      → Acts old new r (FitsLine known t None) (λ c d _. IsAfter known t None c d)
  alone old new known t r one =
      acts_weaker old new r FitsAt (FitsLine known t None) (λ c d _. Keeps c d) (λ c d _. IsAfter known t None c d)
      (λ c fits. (record { kept = fits.0; same = fits.1.same; good = fits.1.good }, fits.4))
      (λ c d _ keeps kept may nodes knows is. keeps (record { kept = kept; same = may.same; good = may.good }) is) one

  module _ (known : Option SetImage) (t : Option Ancestry) (change : Change) where
    line_after : (c : Content) → IsKeptContent c → MayBePut id sender message outcome (Some change) c → IsLine id sender message outcome (changed c change)
    line_after c kept may = record {
      kept = change_kept c change kept may.fits;
      same = subst (λ (k : Keeping). IsOfMessage sender message (k id)) (sym (change_keeping c change)) may.same;
      good = may.good;
    }

    abbrev pub IsMade : Content → Content → Type 0
    IsMade c d = IsKeptContent c → FitsContent c change → HasTree t c change → IsKnownIn known c → d ≡ changed c change

    abbrev pub FitsChange : Content → Type 0
    FitsChange c = IsKeptContent c × FitsContent c change × HasTree t c change × IsKnownIn known c

    -- the outcome may be kept after the change
    fits_after : (c d : Content) → IsKeptContent c → MayBePut id sender message outcome (Some change) c → IsNextPlace id place c → d ≡ changed c change → FitsAt d
    fits_after c d kept may is made = subst FitsAt (sym made) (line_after c kept may, place_after c change id place is)

    pub both_put : (old mid new : State) (r : Result (Unit {0}) StoreFault) → Acts old mid done FitsChange (λ c d _. IsMade c d)
        → Acts mid new r FitsAt (λ c d _. Keeps c d) → Acts old new r (FitsLine known t (Some change)) (λ c d _. IsAfter known t (Some change) c d)
    both_put old mid new r one two =
        acts_then old mid new none FitsChange FitsAt (FitsLine known t (Some change))
        (λ c d _. IsMade c d) (λ d e _. Keeps d e) (λ c d _. IsAfter known t (Some change) c d) r
        (λ c fits. (fits.0, fits.1.fits, fits.2, fits.3))
        (λ c d made fits. fits_after c d fits.0 fits.1 fits.4 (made fits.0 fits.1.fits fits.2 fits.3))
        (λ c d e _ made keeps kept may nodes knows is.
        let same = made kept may.fits nodes knows in
        let fits = fits_after c d kept may is same in
        keeps fits.0 fits.1 ∙ ap (with_kept id sender message outcome) same) one two

    pub both_failed : (old new : State) (fault : StoreFault) → Acts old new (failed fault) FitsChange (λ c d _. IsMade c d)
        → Acts old new (failed fault) (FitsLine known t (Some change)) (λ c d _. IsAfter known t (Some change) c d)
    both_failed old new fault one = acts_stop old new fault FitsChange (FitsLine known t (Some change)) _ (λ c d _. IsAfter known t (Some change) c d) (λ c fits. (fits.0, fits.1.fits, fits.2, fits.3)) one
