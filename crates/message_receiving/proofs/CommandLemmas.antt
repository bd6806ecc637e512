-- A command that is carried out in parts is the machine's step.
use Rattle.std.proofs.Common.{◌≡◌, ◌≤◌, ℕ, Bool, true, cond, refl, List, [], ◌∷◌, Option, Some, None, Result, Ok, Err, sym, ap, ◌∙◌, subst, arith}
use Rattle.std.specs.Prelude.{◌==◌, length, IfOk}
use Rattle.std.proofs.lemmas.Bool.{eqb-true}
use Rattle.bug_record.specs.Sets.{has, Each}
use Rattle.base_words.specs.Texts.{IfGiven}
use Rattle.bug_record.specs.Desk.{Desk, IsSound}
use Rattle.bug_record.specs.Steps.{step}
use Rattle.bug_record.specs.Words.{Names}
use Rattle.bug_record.specs.Images.{bug_in, image_with, put, FitsDesk}
use Rattle.version_nodes.specs.Nodes.{Node}
use Rattle.bug_record.specs.Plans.{IsShownBy, IsOpenHeadFor, CoverImages, BringNone}
use Rattle.bug_record.specs.Changed.{changed_numbers, AreChanged, Replaces}
use Rattle.bug_fields.specs.Members.{leaves_members}
use Rattle.bug_images.specs.Alike.{BeginAlike}
use Rattle.bug_images.proofs.ChangedLemmas.{changed-on_desk}
use Rattle.bug_core.proofs.PlanLemmas.{first_members}
use Rattle.bug_record.specs.declared.bug.SetImage.{SetImage}
use Rattle.bug_record.specs.declared.command.Change.{Change}
use Rattle.bug_record.specs.Commands.{bug_named, bugs_named, names_in}
use Rattle.base_words.specs.Bugs.{IsGoodBug}
use Rattle.base_words.specs.Numbers.{IsGoodNumber}
use Rattle.bug_record.specs.declared.command.Command.{Command}
use Rattle.bug_record.specs.declared.command.Refusal.{Refusal}
use Rattle.base_words.specs.declared.named.Named.{Named}
use Rattle.bug_record.specs.declared.outcome.Outcome.TheVariants.{Changed, Refused}
use Rattle.store_contract.specs.Message.{outcome_of, does}
use Rattle.store_contract.specs.Telling.{refusal_meant, result_meant, step_among}
use Rattle.base_faults.specs.declared.store_fault.StoreFault.{StoreFault}
use Rattle.store_contract.specs.Store.{Answers, with_change}
use Rattle.store_contract.specs.Progress.{HaveNumbers}
use Rattle.message_plans.specs.Changes.{MayBeMade, Fits}
use Rattle.message_receiving.specs.Commands.{LeavesFirst, Makes, DecidesTold, Decides}
use Rattle.message_receiving.specs.declared.command_decision.Decision.{Decision}
use Rattle.store_contract.proofs.RefusalLemmas.{does-good}
use Rattle.message_plans.specs.Images.{ShowBugs}
use Rattle.message_plans.specs.PlanInputs.{IsAnswered}

-- after the two questions
pub shown : (d d1 : Desk) (images sets : List SetImage) (next : ℕ) (ns : List ℕ) → sets ≡ images → ShowBugs d ns images → d1 ≡ d
    → next ≡ d1.next → IsSound d → IsShownBy d sets next ns
shown d d1 images sets next ns f s p q sound =
    let t : ShowBugs d ns sets = subst (ShowBugs d ns) (sym f) s in
    record { sound = sound; next_is = sym (q ∙ ap (λ (z : Desk). z.next) p); sets = t.sets; known = t.known }

-- with the open head that the first one answers
pub shown_with : (d d1 : Desk) (command : Command ℕ) (answers : List SetImage × Option Node) (sets : List SetImage)
    (head : Option Node) (next : ℕ) → sets ≡ answers.0 → head ≡ answers.1 → IsAnswered d command answers × (d1 ≡ d)
    → next ≡ d1.next → IsSound d → IsShownBy d sets next (bugs_named command) × IsOpenHeadFor d command head
shown_with d d1 command answers sets head next f g p q sound =
    (shown d d1 answers.0 sets next (bugs_named command) f p.0.0 p.1 q sound, subst (IsOpenHeadFor d command) (sym g) p.0.1)

-- what is planned may be carried out
pub planned : (d : Desk) (images : List SetImage) (next : ℕ) (ns : List ℕ) (change : Change) → IsShownBy d images next ns
    → FitsDesk d change → CoverImages images change.images → BringNone d images change.images → next ≤ change.next
    → MayBeMade d images next change
planned d images next ns change sh fits covers brings later = record {
  next_is = sh.next_is;
  fits = fits;
  replaces = record {
    sound = sh.sound;
    sets = sh.sets;
    covers = covers;
    brings = brings;
    later = subst (λ (m : ℕ). m ≤ change.next) (sym sh.next_is) later;
    sound_after = fits.sound;
  };
}

-- what is decided of a planned change is decided of its command
pub decides_planned : (sender : List ℕ) (names : Names) (d : Desk) (command : Command ℕ) (change : Change) (decision : Decision)
    → step_among names d sender command ≡ Ok (put d change) → Makes d change decision
    → DecidesTold sender names d command decision
decides_planned sender names d command change decision s m = record {
  step = ap (λ (r : Result Desk Refusal). outcome_of d (result_meant r)) s ∙ (λ i. (sym m.outcome i, sym m.desk i));
  fits = m.fits;
}

-- what makes no change
pub no_change : (d : Desk) (change : Option Change) → change ≡ None → Fits d change
no_change d change e = subst (Fits d) (sym e) (record { apart = tt; fits = tt })

-- a refused command
pub decides_refused : (sender : List ℕ) (names : Names) (d : Desk) (command : Command ℕ) (refusal said : Refusal)
    (decision : Decision) → step_among names d sender command ≡ Err refusal → said ≡ refusal_meant refusal
    → decision.outcome ≡ Refused said → decision.change ≡ None → DecidesTold sender names d command decision
decides_refused sender names d command refusal said decision s meant o c = record {
  step = ap (λ (r : Result Desk Refusal). outcome_of d (result_meant r)) s
      ∙ (λ i. (sym (o ∙ ap Refused meant) i, with_change (sym c i) d));
  fits = no_change d decision.change c;
}

-- its change may still be made
pub fits_now : (sender : List ℕ) (names : Names) (d new : Desk) (command : Command ℕ) (result : Result Decision StoreFault)
    → Answers d new result (DecidesTold sender names d command) → IfOk result (λ decision. Fits new decision.change)
fits_now sender names d new command (Ok decision) h = subst (λ (z : Desk). Fits z decision.change) (sym h.1) h.0.fits
fits_now sender names d new command (Err fault) h = tt

-- a command that was told is the line's
pub decides_told : (sender : List ℕ) (names : Names) (d : Desk) (command : Command Named) (told : Command ℕ) (decision : Decision)
    → IsSound d → Each IsGoodBug (bugs_named command) → Each IsGoodNumber (names_in command) → HaveNumbers names
    → result_meant (step_among names d sender told) ≡ step names d sender command
    → DecidesTold sender names d told decision → Decides sender names d command decision
unfolding does
decides_told sender names d command told decision sound bugs ks have meant h =
    let s : does sender names d command ≡ (decision.outcome, with_change decision.change d) = ap (outcome_of d) (sym meant) ∙ h.step in
    record {
      step = s;
      good = does-good sender names d (with_change decision.change d) command decision.outcome s sound
          (sound_after d decision.change sound h.fits.fits) bugs ks have;
    }
  where
    sound_after : (d : Desk) (change : Option Change) → IsSound d → IfGiven (FitsDesk d) change → IsSound (with_change change d)
    sound_after d None sound h = sound
    sound_after d (Some change) sound h = h.sound

-- the numbers of a planned change are those at which the desks differ
pub told : {d : Desk} (images sets : List SetImage) {next : ℕ} {change : Change} {numbers : List ℕ} → sets ≡ change.images
    → ((d : Desk) (next : ℕ) → Replaces d images sets next
    → numbers ≡ changed_numbers d (put d (record { images = sets; next = next })))
    → MayBeMade d images next change → Changed numbers ≡ Changed (changed_numbers d (put d change))
told {d} images sets {next} {change} {numbers} e right p =
    ap Changed (right d change.next (subst (λ js. Replaces d images js change.next) (sym e) p.replaces)
    ∙ ap (λ js. changed_numbers d (put d (record { images = js; next = change.next }))) e)

-- a list of no number
pub nothing : (shown numbers : List ℕ) → shown ≡ numbers → (length shown == 0) ≡ true → numbers ≡ []
nothing [] numbers e t = sym e
nothing (n ∷ ns) numbers e t = let none : length (n ∷ ns) ≡ 0 = eqb-true (length (n ∷ ns)) 0 t in absurd (omega arith)

-- a change of nothing leaves the desk as it is
pub unchanged : (d : Desk) (images sets : List SetImage) (next : ℕ) (change : Change) (numbers : List ℕ) → sets ≡ change.images
    → AreChanged (bug_in images) (bug_in sets) numbers
    → MayBeMade d images next change → numbers ≡ [] → change.next ≡ next → put d change ≡ d
unchanged d images sets next change numbers e a p none same =
    let b = subst (λ js. AreChanged (bug_in images) (bug_in js) numbers) e a in
    let o = (changed-on_desk d images change.images change.next numbers p.replaces b).others in
    let f : (n : ℕ) → (put d change).bug n ≡ d.bug n = λ n. sym (o n (ap (λ w. has w n) none)) in
    let m : change.next ≡ d.next = same ∙ sym p.next_is in
    λ i. record { bug = λ n. f n i; tree = d.tree; next = m i }

-- what a plan promises of its change
pub if_planned : {A E : Type 0} (P : A → Type 0) (r : Result A E) (x : A) → r ≡ Ok x → IfOk r P → P x
if_planned P r x e h = subst (λ q. IfOk q P) e h

-- what is planned of a command that leaves the titles and submitters of the first image begins with
-- its members
pub begins-with : (command : Command ℕ) (is js : List SetImage)
    → ((i : SetImage) → image_with is (bug_named command) ≡ Some i → leaves_members command i.shared ≡ true → BeginAlike (i ∷ []) js)
    → LeavesFirst command is → BeginAlike is js
begins-with command is js h l = λ o n os ns p q.
    let found : image_with is (bug_named command) ≡ Some l.0 =
    ap (λ (z : List SetImage). image_with z (bug_named command)) l.2
    ∙ ap (λ (t : Bool). cond t (Some l.0) (image_with l.1 (bug_named command))) l.4 in
    ap first_members (sym p ∙ l.2) ∙ h l.0 found l.3 l.0 n [] ns refl q
