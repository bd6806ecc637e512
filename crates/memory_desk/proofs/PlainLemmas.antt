-- The desk in memory as its bugs by sets, its tree and its next number.
use Rattle.std.proofs.Common.{◌≡◌, ℕ, Option, Some, None, Result, Ok, Err, OnOk, OnErr, ap, sym, subst}
use Rattle.std.specs.Option.{option_or, option_and_then}
use Rattle.version_nodes.specs.Trees.{Ancestry}
use Rattle.bug_record.specs.Desk.{Desk, IsSound}
use Rattle.bug_record.specs.Images.{bug_in, put, FitsDesk}
use Rattle.base_words.specs.Texts.{IfGiven}
use Rattle.bug_record.specs.declared.bug.SetImage.{SetImage}
use Rattle.bug_record.specs.declared.command.Change.{Change}
use Rattle.store_keys.specs.Keys.{Keyed, keyed_desk}
use Rattle.store_sets.specs.Plain.{keyed_of, desk_of}
use Rattle.store_sets.specs.declared.bug_sets.BugSets.{BugSets}
use Rattle.store_contract.specs.Store.{IsImageOf, with_change}
use Rattle.store_keys.proofs.ImageLemmas.{both_steps}
use Rattle.store_keys.proofs.KeyLemmas.{image-of_key}

-- the desk whose bugs are these keys and images
pub desk_of-keyed : (bugs : BugSets) (b : Keyed) (tree : Ancestry) (next : ℕ) → keyed_of bugs ≡ b
    → desk_of bugs tree next ≡ keyed_desk b.key b.set tree next
desk_of-keyed bugs b tree next h = ap (λ (k : Keyed). keyed_desk k.key k.set tree next) h

-- the image of a bug's set
pub image-is : (bugs : BugSets) (tree : Ancestry) (next : ℕ) → IsSound (desk_of bugs tree next) → (n : ℕ) (i : SetImage)
    → option_and_then (keyed_of bugs).set ((keyed_of bugs).key n) ≡ Some i → IsImageOf (desk_of bugs tree next) n (Some i)
image-is bugs tree next sound n i h =
    let k = both_steps (keyed_of bugs).set ((keyed_of bugs).key n) i h in
    image-of_key (keyed_of bugs).key (keyed_of bugs).set bugs.keyed tree next sound n k.0 i k.1 k.2

-- the desk after a change
pub desk_of-put : (old now : BugSets) (tree : Ancestry) (next : ℕ) (change : Change)
    → ((n : ℕ) → (desk_of now tree change.next).bug n ≡ option_or (bug_in change.images n) ((desk_of old tree next).bug n))
    → desk_of now tree change.next ≡ put (desk_of old tree next) change
desk_of-put old now tree next change h = λ i. record { bug = λ n. h n i; tree = tree; next = change.next }

-- the desk whose bugs and next number stay
pub desk_of-same : (old now : BugSets) (tree : Ancestry) (before next : ℕ) → keyed_of now ≡ keyed_of old → next ≡ before
    → desk_of now tree next ≡ desk_of old tree before
desk_of-same old now tree before next e n = λ i. keyed_desk (e i).key (e i).set tree (n i)

changed-sound : (d : Desk) (change : Option Change) → IsSound d → IfGiven (FitsDesk d) change → IsSound (with_change change d)
changed-sound d None sound fits = sound
changed-sound d (Some change) sound fits = fits.sound

-- made or not, the desk is sound
pub made-sound : {T E : Type 0} (r : Result T E) (old now : BugSets) (tree : Ancestry) (before next : ℕ) (change : Option Change)
    → IsSound (desk_of old tree before) → IfGiven (FitsDesk (desk_of old tree before)) change
    → OnOk r ((t : Ancestry) → desk_of now t next ≡ with_change change (desk_of old t before))
    → OnErr r (keyed_of now ≡ keyed_of old) → OnErr r (next ≡ before)
    → IsSound (desk_of now tree next)
made-sound (Ok done) old now tree before next change sound fits made same stays =
    subst IsSound (sym (made tree)) (changed-sound (desk_of old tree before) change sound fits)
made-sound (Err e) old now tree before next change sound fits made same stays =
    subst IsSound (sym (desk_of-same old now tree before next same stays)) sound
