-- For each kind of command, that what is planned on images is its step on the desk.
use Rattle.std.specs.Prelude.{option_map}
use Rattle.std.proofs.Common.{Bool, ◌&&◌, not}
use Rattle.std.proofs.Common.{◌≡◌, ℕ, true, false, cond, List, [], ◌∷◌, ◌++◌, Option, Some, None, Result, Ok, Err, refl, sym, ap}
use Rattle.std.proofs.Common.{◌∙◌, subst, arith}
use Rattle.std.specs.List.{find}
use Rattle.std.specs.Option.{option_or}
use Rattle.std.specs.Result.{IsErrAnd}
use Rattle.std.proofs.lemmas.Option.{none-some, same_Some}
use Rattle.std.proofs.lemmas.Result.{err_from_is_err_and}
use Rattle.debver.specs.Names.{IsName}
use Rattle.bug_record.specs.Desk.{Desk, IsSound, AreGoodBlockers}
use Rattle.bug_record.specs.Bugs.{each_bug, at_bug, unless, first_of}
use Rattle.bug_record.specs.Words.{bug_refusal, first_bug_refusal, words_refusal, first_may_be_archived, others_may_be_archived}
use Rattle.bug_record.specs.Words.{archived_refusal}
use Rattle.bug_record.specs.Commands.{bug_named, other_bugs, bugs_named, HasGoodParts, HasUtf8Texts}
use Rattle.bug_record.specs.Steps.{own_tests, records_changed, change_set, shared_after, new_title, new_submitter}
use Rattle.bug_record.specs.Sets.{has, Each}
use Rattle.base_words.specs.Texts.{IsGoodText, IfGiven}
use Rattle.bug_record.specs.Images.{bug_of, bug_in, numbers_of, put, AreApart, AreSetsOf, image_with}
use Rattle.bug_record.specs.Plans.{AllKnown, IsShownBy}
use Rattle.bug_record.specs.declared.bug.Bug.{Bug}
use Rattle.bug_record.specs.declared.bug.Member.{Member}
use Rattle.bug_record.specs.declared.bug.Shared.{Shared}
use Rattle.bug_record.specs.declared.bug.SetImage.{SetImage}
use Rattle.bug_record.specs.declared.command.Change.{Change}
use Rattle.bug_record.specs.declared.command.Command.{Command}
use Rattle.bug_record.specs.declared.command.PlanFault.{PlanFault}
use Rattle.bug_record.specs.declared.command.PlanFault.TheVariants.{Refused, Memory}
use Rattle.bug_record.specs.declared.command.Refusal.{Refusal}
use Rattle.bug_record.specs.declared.command.Refusal.TheVariants.{NoBug, Archived, NotArchived, OwnSet, NotDone, StillFound}
use Rattle.bug_record.specs.declared.command.Command.TheVariants as commands
use Rattle.version_nodes.specs.Nodes.{Node}
use Rattle.bug_record.specs.Words.{archived_refusal}
use Rattle.bug_images.specs.Alike.{BeginAlike}
use Rattle.bug_images.specs.Refusals.{records_refusal}
use Rattle.bug_core.specs.Others.{others}
use Rattle.bug_images.proofs.RefusalLemmas.{shown-refusal}
use Rattle.bug_core.specs.Planned.{IsPlanned, IsRecordsPlan}
use Rattle.bug_core.specs.Refused.{HasName, IsRefusedAs, IsRefusalOfPlan}
use Rattle.bug_images.proofs.ImageLemmas.{same_value, shown, image_with-shows, image_with-none}
use Rattle.bug_fields.proofs.FieldLemmas.{good-shared_after, good-new_title, good-new_submitter}
use Rattle.bug_record.proofs.RefusalLemmas.{first-none, later-none}
use Rattle.bug_fields.proofs.BlockerLemmas.{good-blockers_after}
use Rattle.bug_fields.proofs.SoundLemmas.{agree, sound-change_set}
use Rattle.bug_core.proofs.ListedLemmas.{bugs_refused-known}
use Rattle.bug_core.proofs.ReplaceLemmas.{TakesPlace, Makes, apart-replaced, members-replaced, covers-replaced, none-replaced}
use Rattle.bug_core.proofs.ReplaceLemmas.{whole-sets, put-replaced, image_after, bug_after, set-takes_place, set-makes}

-- the step of each desk, sound or not, of which the images show these bugs
abbrev pub Steps : List ℕ → (Desk → Result Desk Refusal) → List SetImage → ℕ → (Desk → Result Desk Refusal) → Type 0
Steps named step is next after = (d : Desk) → d.next ≡ next → AllKnown d is named → step d ≡ after d

-- a refusal that is the step's
pub planned-refused : (named : List ℕ) (step : Desk → Result Desk Refusal) (is : List SetImage) (next : ℕ) (refusal : Refusal)
    → IsRefusalOfPlan refusal → Steps named step is next (λ _. Err refusal) → IsPlanned named step is next (Err (Refused refusal))
planned-refused named step is next refusal own h = record {
  right = λ d sh. h d sh.next_is sh.known;
  fits = λ d sh. tt;
  brings = λ d sh. tt;
  refusals = λ d e k names. subst (λ (z : Result Desk Refusal). IsRefusedAs z (Err (Refused refusal))) (sym (h d e k)) refl;
  own = own;
  apart = λ d sound e sets. tt;
  members = tt;
  covers = tt;
  later = tt;
}

-- a change of the sets of the bugs ns that is the step's
pub planned-replaced : (named : List ℕ) (step : Desk → Result Desk Refusal) (is : List SetImage) (next : ℕ) (ns : List ℕ)
    (new : List SetImage) (f : ℕ → Bug → Bug) → AreApart is → TakesPlace is ns new
    → ((d : Desk) → AllKnown d is named → AllKnown d is ns) → Steps named step is next (λ d. Ok (each_bug d f))
    → ((d : Desk) → IsShownBy d is next named → Makes d is ns new f)
    → ((d : Desk) → IsShownBy d is next named → IsSound (each_bug d f))
    → (change : Change) → change.images ≡ new ++ others ns is → change.next ≡ next → IsPlanned named step is next (Ok change)
planned-replaced named step is next ns new f a p known steps makes keeps change same last =
    subst (λ (z : Change). IsPlanned named step is next (Ok z)) (sym whole) (record {
      right = λ d sh. (steps d sh.next_is sh.known ∙ ap Ok (sym (moved d sh)), sound d sh);
      fits = λ d sh. record { whole = whole-sets d is js sh.sound sh.sets covers none; sound = sound d sh };
      brings = λ d sh m b q e. absurd (none-some b (sym (none m q) ∙ e));
      refusals = λ d e k names. subst (λ (z : Result Desk Refusal). IsRefusedAs z (Ok (record { images = js; next = next })))
          (sym (steps d e k)) tt;
      own = tt;
      apart = λ d sound e sets. apart-replaced is ns new a p;
      members = members-replaced is ns new p;
      covers = covers;
      later = omega arith;
    })
  where
    js : List SetImage
    js = new ++ others ns is

    whole : change ≡ record { images = js; next = next }
    whole = λ j. record { images = same j; next = last j }

    covers : (m : ℕ) → bug_in js m ≡ None → bug_in is m ≡ None
    covers = covers-replaced is ns new p

    none : (m : ℕ) → bug_in is m ≡ None → bug_in js m ≡ None
    none = none-replaced is ns new p

    moved : (d : Desk) → IsShownBy d is next named → put d (record { images = js; next = next }) ≡ each_bug d f
    moved d sh = put-replaced d is next ns new f sh.sound sh.next_is sh.sets (known d sh.known) p (makes d sh)

    sound : (d : Desk) → IsShownBy d is next named → IsSound (put d (record { images = js; next = next }))
    sound d sh = subst IsSound (sym (moved d sh)) (keeps d sh)

-- ---- a command that changes records of the set of the bug that it names

abbrev records_after : List ℕ → Command ℕ → Desk → Desk
records_after sender command d =
    change_set d (bug_named command) (shared_after sender command) (new_title command) (new_submitter sender command)

-- its step, and it by what is known of the bug, and of the others
abbrev pub records_step : Option Node → List ℕ → Command ℕ → Desk → Result Desk Refusal
records_step head sender command d = unless (words_refusal (λ n. Ok n) d.bug command) (records_changed (λ _. head) sender command d)

abbrev by_bug : Option Node → List ℕ → Command ℕ → Option Bug → Option Refusal → Desk → Result Desk Refusal
by_bug head sender command o others d =
    unless (option_or (bug_refusal (first_may_be_archived command) o (bug_named command)) others)
    (at_bug o (bug_named command) (λ b. unless (first_of (own_tests command head b.merged b.shared)) (Ok (records_after sender command d))))

-- by what the images show of it
steps-shown : (head : Option Node) (sender : List ℕ) (command : Command ℕ) (is : List SetImage) (next : ℕ) (o : Option Bug)
    → bug_in is (bug_named command) ≡ o
    → Steps (bugs_named command) (records_step head sender command) is next
    (by_bug head sender command o (first_bug_refusal (others_may_be_archived command) (bug_in is) (other_bugs command)))
steps-shown head sender command is next o h d e k = λ j.
    by_bug head sender command ((sym k.0 ∙ h) j)
    (sym (bugs_refused-known (others_may_be_archived command) d is (other_bugs command) k.1) j) d

-- two tests in turn are one
two-tests : {A : Type 0} (o p : Option Refusal) (result : Result A Refusal)
    → unless o (unless p result) ≡ unless (option_or o p) result
two-tests None p result = refl
two-tests (Some refusal) p result = refl

-- by the refusal of the bugs that the images show
steps-refusal : (head : Option Node) (sender : List ℕ) (command : Command ℕ) (is : List SetImage) (next : ℕ) (i : SetImage)
    (o : Option Refusal) → image_with is (bug_named command) ≡ Some i
    → records_refusal command head is i ≡ o
    → Steps (bugs_named command) (records_step head sender command) is next
    (λ d. unless o (Ok (records_after sender command d)))
steps-refusal head sender command is next i o h r d e k =
    let b = image_with-shows is (bug_named command) i h in
    let others = first_bug_refusal (others_may_be_archived command) (bug_in is) (other_bugs command) in
    steps-shown head sender command is next (Some (bug_of i b.0)) b.1 d e k
    ∙ two-tests (option_or (archived_refusal (first_may_be_archived command) (bug_named command) i.shared) others)
    (first_of (own_tests command head (numbers_of i.members) i.shared)) (Ok (records_after sender command d))
    ∙ ap (λ (z : Option Refusal). unless (option_or (option_or z others)
    (first_of (own_tests command head (numbers_of i.members) i.shared))) (Ok (records_after sender command d)))
    (sym (shown-refusal (first_may_be_archived command) is (bug_named command) i h))
    ∙ ap (λ (z : Option Refusal). unless z (Ok (records_after sender command d))) r

-- these refusals are a plan's
own-either : (o p : Option Refusal) → IfGiven IsRefusalOfPlan o → IfGiven IsRefusalOfPlan p
    → IfGiven IsRefusalOfPlan (option_or o p)
own-either None p h k = k
own-either (Some refusal) p h k = h

archived-own : (may_be : Bool) (n : ℕ) (f : Shared) → IfGiven IsRefusalOfPlan (archived_refusal may_be n f)
archived-own may_be n f =
    elim (f.archived && not may_be) as (λ t. IfGiven IsRefusalOfPlan (cond t (Some (Archived n)) None))
    [ true ↦ tt | false ↦ tt ]

pub own-archived : (may_be : Bool) (n : ℕ) (f : Shared) (refusal : Refusal) → archived_refusal may_be n f ≡ Some refusal
    → IsRefusalOfPlan refusal
own-archived may_be n f refusal e = subst (IfGiven IsRefusalOfPlan) e (archived-own may_be n f)

bug-own : (may_be : Bool) (o : Option Bug) (n : ℕ) → IfGiven IsRefusalOfPlan (bug_refusal may_be o n)
bug-own may_be None n = tt
bug-own may_be (Some b) n = archived-own may_be n b.shared

-- the first refusal of bugs is one of those that they have
words-own : (may_be : Bool) (bug : ℕ → Option Bug) (ns : List ℕ) → IfGiven IsRefusalOfPlan (first_bug_refusal may_be bug ns)
words-own may_be bug [] = tt
words-own may_be bug (n ∷ ns) =
    own-either (bug_refusal may_be (bug n) n) (first_bug_refusal may_be bug ns) (bug-own may_be (bug n) n) (words-own may_be bug ns)

pub own-refused : (may_be : Bool) (bug : ℕ → Option Bug) (ns : List ℕ) (refusal : Refusal)
    → first_bug_refusal may_be bug ns ≡ Some refusal → IsRefusalOfPlan refusal
own-refused may_be bug ns refusal e = subst (IfGiven IsRefusalOfPlan) e (words-own may_be bug ns)

tests-own : (command : Command ℕ) (head : Option Node) (merged : List ℕ) (f : Shared)
    → IfGiven IsRefusalOfPlan (first_of (own_tests command head merged f))
tests-own (commands.Block n ns) head merged f =
    elim (find (has merged) ns) as (λ o. IfGiven IsRefusalOfPlan (option_or (option_map OwnSet o) None)) [ None ↦ tt | Some m ↦ tt ]
tests-own (commands.Archive n) head merged f =
    elim f.closed as (λ t. IfGiven IsRefusalOfPlan
    (option_or (cond t None (Some (NotDone n))) (option_or (option_map StillFound head) None))) [
      | true ↦ elim head as (λ h. IfGiven IsRefusalOfPlan (option_or (option_map StillFound h) None)) [ None ↦ tt | Some v ↦ tt ]
      | false ↦ tt
    ]
tests-own (commands.Unarchive n) head merged f =
    elim f.archived as (λ t. IfGiven IsRefusalOfPlan (option_or (cond t None (Some (NotArchived n))) None))
    [ true ↦ tt | false ↦ tt ]
tests-own (commands.Affects n step names) head merged f = tt
tests-own _ head merged f = tt

-- a refusal of the bugs
pub planned-tested : (head : Option Node) (sender : List ℕ) (command : Command ℕ) (is : List SetImage) (next : ℕ) (i : SetImage)
    (refusal : Refusal) → image_with is (bug_named command) ≡ Some i
    → records_refusal command head is i ≡ Some refusal → IsRecordsPlan head sender command is next (Err (Refused refusal))
planned-tested head sender command is next i refusal h r =
    planned-refused (bugs_named command) (records_step head sender command) is next refusal
    (subst (IfGiven IsRefusalOfPlan) r
    (own-either (words_refusal (λ n. Ok n) (bug_in is) command) (first_of (own_tests command head (numbers_of i.members) i.shared))
    (own-either (bug_refusal (first_may_be_archived command) (bug_in is (bug_named command)) (bug_named command))
    (first_bug_refusal (others_may_be_archived command) (bug_in is) (other_bugs command))
    (bug-own (first_may_be_archived command) (bug_in is (bug_named command)) (bug_named command))
    (words-own (others_may_be_archived command) (bug_in is) (other_bugs command)))
    (tests-own command head (numbers_of i.members) i.shared)))
    (steps-refusal head sender command is next i (Some refusal) h r)

-- where no bug is refused, the blockers after the command are good ones, in the bug's whole set
good-blockers : (head : Option Node) (sender : List ℕ) (command : Command ℕ) (is : List SetImage) (next : ℕ) (i : SetImage) (d : Desk)
    → image_with is (bug_named command) ≡ Some i → records_refusal command head is i ≡ None
    → IsShownBy d is next (bugs_named command)
    → (m : ℕ) (b : Bug) → d.bug m ≡ Some b → has b.merged (bug_named command) ≡ true
    → AreGoodBlockers d b.merged (shared_after sender command b.shared).blockers
good-blockers head sender command is next i d h r sh m b e k =
    let n = bug_named command in
    let x = image_with-shows is n i h in
    let c = agree d sh.sound m n b e k in
    let same : c.0 ≡ bug_of i x.0 = same_value c.0 (bug_of i x.0) c.1 (shown d is sh.sets n (bug_of i x.0) x.1) in
    let first = bug_refusal (first_may_be_archived command) (bug_in is n) n in
    let others = first_bug_refusal (others_may_be_archived command) (bug_in is) (other_bugs command) in
    let own = first_of (own_tests command head (numbers_of i.members) i.shared) in
    let merged : b.merged ≡ numbers_of i.members = sym c.2 ∙ ap (λ (z : Bug). z.merged) same in
    let fields : b.shared ≡ i.shared = sym c.3 ∙ ap (λ (z : Bug). z.shared) same in
    good-blockers_after d sender command head b.merged b.shared (sh.sound.blockers m b e)
    (sym (bugs_refused-known (others_may_be_archived command) d is (other_bugs command) sh.known.1)
    ∙ later-none first others (first-none (option_or first others) own r))
    ((λ j. first_of (own_tests command head (merged j) (fields j))) ∙ later-none (option_or first others) own r)

pub planned-records : (head : Option Node) (sender : List ℕ) (command : Command ℕ) (is : List SetImage) (next : ℕ) (i : SetImage)
    → IsGoodText sender → HasGoodParts command → HasUtf8Texts command → AreApart is
    → image_with is (bug_named command) ≡ Some i → records_refusal command head is i ≡ None
    → (change : Change) → change.images
    ≡ image_after i (shared_after sender command) (new_title command) (new_submitter sender command) ∷ others
    (bug_named command ∷ []) is → change.next ≡ next → IsRecordsPlan head sender command is next (Ok change)
planned-records head sender command is next i text good utf8 a h r =
    planned-replaced (bugs_named command) (records_step head sender command) is next (bug_named command ∷ [])
    (image_after i f title who ∷ []) (bug_after (bug_named command) f title who) a
    (set-takes_place is (bug_named command) i f title who a h)
    (λ d k. (k.0, tt))
    (steps-refusal head sender command is next i None h r)
    (λ d sh. set-makes d is (bug_named command) i f title who a h)
    (λ d sh. sound-change_set d (bug_named command) f title who sh.sound
    (record {
      fields = good-shared_after sender command text good utf8;
      titles = good-new_title command good utf8;
      submitters =
          good-new_submitter sender command text good utf8;
    }) (good-blockers head sender command is next i d h r sh))
  where
    f : Shared → Shared
    f = shared_after sender command

    title : ℕ → Option (List ℕ)
    title = new_title command

    who : Shared → ℕ → Option (List ℕ)
    who = new_submitter sender command

-- a bug in no image is refused
pub planned-no_bug : (head : Option Node) (sender : List ℕ) (command : Command ℕ) (is : List SetImage) (next : ℕ)
    → image_with is (bug_named command) ≡ None
    → IsRecordsPlan head sender command is next (Err (Refused (NoBug (bug_named command))))
planned-no_bug head sender command is next h =
    planned-refused (bugs_named command) (records_step head sender command) is next (NoBug (bug_named command)) tt
    (steps-shown head sender command is next None (image_with-none is (bug_named command) h))

-- no desk shows an image whose package is no package name
has_name : (is : List SetImage) (n : ℕ) (i : SetImage) → image_with is n ≡ Some i → Each HasName is → IsName i.shared.«package»
has_name [] n i h e = absurd (none-some i h)
has_name (j ∷ is) n i h e =
    elim (has (numbers_of j.members) n) as (λ t. cond t (Some j) (image_with is n) ≡ Some i → IsName i.shared.«package»)
    [ true ↦ λ h. subst HasName (same_Some _ _ h) e.0 | false ↦ λ h. has_name is n i h e.1 ] h

named-shown : (d : Desk) (is : List SetImage) (n : ℕ) (i : SetImage) → IsSound d → AreSetsOf d is → image_with is n ≡ Some i
    → IsName i.shared.«package»
named-shown d is n i sound sets h = let b = image_with-shows is n i h in
    (sound.texts n (bug_of i b.0) (shown d is sets n (bug_of i b.0) b.1)).shared.package_name

-- what is answered where there is no memory
pub planned-memory : (named : List ℕ) (step : Desk → Result Desk Refusal) (is : List SetImage) (next : ℕ)
    → IsPlanned named step is next (Err Memory)
planned-memory named step is next = record {
  right = λ d sh. tt;
  fits = λ d sh. tt;
  brings = λ d sh. tt;
  refusals = λ d e k names. always (step d);
  own = tt;
  apart = λ d sound e sets. tt;
  members = tt;
  covers = tt;
  later = tt;
}
  where
    always : (r : Result Desk Refusal) → IsRefusedAs r (Err Memory)
    always (Ok d) = tt
    always (Err refusal) = tt

-- the same, at the exit of a call that had none
pub planned-no_memory : (named : List ℕ) (step : Desk → Result Desk Refusal) (is : List SetImage) (next : ℕ)
    (r : Result Change PlanFault) → IsErrAnd r (λ e. e ≡ Memory) → IsPlanned named step is next r
planned-no_memory named step is next r h = let p = err_from_is_err_and r h in
    subst (λ (z : Result Change PlanFault). IsPlanned named step is next z) (sym (p.1 ∙ ap (λ (e : PlanFault). Err e) p.2))
    (planned-memory named step is next)

-- what is answered where the image's package is no package name
pub planned-nameless : (named : List ℕ) (step : Desk → Result Desk Refusal) (is : List SetImage) (next n : ℕ) (i : SetImage)
    (refusal : Refusal) → IsRefusalOfPlan refusal → image_with is n ≡ Some i → ¬ (IsName i.shared.«package»)
    → IsPlanned named step is next (Err (Refused refusal))
planned-nameless named step is next n i refusal own h w = record {
  right = λ d sh. absurd (w (named-shown d is n i sh.sound sh.sets h));
  fits = λ d sh. tt;
  brings = λ d sh. tt;
  refusals = λ d e k names. absurd (w (has_name is n i h names));
  own = own;
  apart = λ d sound e sets. tt;
  members = tt;
  covers = tt;
  later = tt;
}

-- the refusal of a bug of an archived set, whose fields were looked at elsewhere
pub archived-seen : (n : ℕ) {fields shared : Shared} {r : Option Refusal} → fields ≡ shared → r ≡ archived_refusal false n fields
    → archived_refusal false n shared ≡ r
archived-seen n e q = sym (q ∙ (λ j. archived_refusal false n (e j)))

-- the members of the first image
abbrev pub first_members : List SetImage → List Member
first_members [] = []
first_members (i ∷ is) = i.members

-- images of which the first has the members of this one begin as it does
pub begins-alike : (i new : SetImage) (others js : List SetImage) → i.members ≡ new.members → js ≡ new ∷ others
    → BeginAlike (i ∷ []) js
begins-alike i new others js e f = λ o n os ns p q.
    ap first_members (sym p) ∙ e ∙ ap first_members (sym f ∙ q)
