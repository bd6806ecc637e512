-- What an outcome that is kept leaves of what is remembered.
use Rattle.desk_tables.proofs.Imports.{AreKnown, HasTreeIfAny, IsKnownIn, IsNextIn, IsNextPlace, Keeps, MayBeKept, next_after, with_change}
use Rattle.table_schema.proofs.Exports.{◌≡◌, ℕ, List, Option, None, Some, refl, ap, ◌∙◌, Ancestry, IsText, IfGiven, HasMember, FitsDesk, Each, Change, Outcome, FitsContent, cleared_for, Content, MayBePut, changed_by, kept_after, IsKeptContent, desk_in, keeping_in, after_keeping, after_kept, change_desk, put_nodes, no_nodes}
use Rattle.bug_record.specs.Images.{AreApart}
use Rattle.bug_record.specs.declared.bug.SetImage.{SetImage}
use Rattle.store_contract.proofs.KeepLemmas.{kept_also-good}
use Rattle.table_reads.specs.Known.{IsPartOf, followed}
use Rattle.desk_tables.proofs.KeptLemmas.{known_after, made}

-- ---- a change, if there is one

pub changed_nodes : (change : Option Change) (c : Content) → (changed_by change c).nodes ≡ c.nodes
changed_nodes None c = refl
changed_nodes (Some change) c = put_nodes change.images (cleared_for c change) ∙ no_nodes c change.images c

pub changed_desk : (change : Option Change) (c : Content) → IsKeptContent c → IfGiven (FitsContent c) change → desk_in (changed_by change c) ≡ with_change change (desk_in c)
changed_desk None c kept fits = refl
changed_desk (Some change) c kept fits = change_desk c change kept fits

-- the change of a line fits what was seen
pub line_fits : (change : Option Change) (c : Content) → IfGiven (λ (x : Change). Each HasMember x.images) change → IfGiven (λ (x : Change). AreApart x.images) change
    → IfGiven (FitsDesk (desk_in c)) change → IfGiven (FitsContent c) change
line_fits None c members apart fits = tt
line_fits (Some change) c members apart fits = record { members = members; apart = apart; fits = fits }

-- what is known after it
pub line_known : (change : Option Change) (c : Content) (known known' : ℕ → Option SetImage) → IsKeptContent c → IfGiven (FitsContent c) change → AreKnown known c
    → IsPartOf known' (followed change known) → AreKnown known' (changed_by change c)
line_known None c known known' kept fits was part k i e = was k i (part k i e)
line_known (Some change) c known known' kept fits was part k i e = known_after change c known known' kept fits was part k i e

-- the next number that is known after it, and after the outcome
pub line_next : (change : Option Change) (c : Content) (id sender message : List ℕ) (outcome : Outcome) (known : Option ℕ) → IsNextIn known c
    → IsNextIn (next_after change known) (kept_after id sender message outcome change c)
line_next None c id sender message outcome known is = is
line_next (Some change) c id sender message outcome known is = refl

-- ---- over what was seen

-- the outcome may be put, over this tree
abbrev pub FitsLine : Option Ancestry → Option SetImage → ℕ → List ℕ → List ℕ → List ℕ → Outcome → Option Change → Content → Type 0
FitsLine t before place id sender message outcome change c = IsKeptContent c × MayBePut id sender message outcome change c × HasTreeIfAny t c change × IsKnownIn before c × IsNextPlace id place c

module _ (c : Content) (id sender message : List ℕ) (outcome : Outcome) (change : Option Change) (may : MayBeKept id sender message (keeping_in c) (desk_in c) outcome change)
    (kept : IsKeptContent c) (fits : IfGiven (FitsContent c) change) where
  abbrev after : Content
  after = kept_after id sender message outcome change c

  pub line_is : (t : Option Ancestry) (before : Option SetImage) (place : ℕ) → HasTreeIfAny t c change → IsKnownIn before c → IsNextPlace id place c → FitsLine t before place id sender message outcome change c
  line_is t before place tree knows is = (kept, record { fits = fits; same = may.next.same; good = may.good }, tree, knows, is)

  pub line_stays : IsText sender → IsKeptContent after × (after.nodes ≡ c.nodes)
  line_stays text =
      let good = kept_also-good id sender message (keeping_in c) (desk_in c) outcome (with_change change (desk_in c)) may.next kept.sound text may.good kept.good in
      (after_kept c kept change fits id sender message outcome good, changed_nodes change c)

  pub line_fact : (d : Content) → d ≡ after → Keeps id sender message outcome change (desk_in c) (keeping_in c) made (desk_in d) (keeping_in d)
  line_fact d is = (ap desk_in is ∙ changed_desk change c kept fits, ap keeping_in is ∙ after_keeping c kept change fits id sender message outcome)
