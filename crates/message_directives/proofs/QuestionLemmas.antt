-- What is told of a desk.
use Rattle.std.proofs.Common.{◌≡◌, ℕ, true, false, Bool, List, [], ◌∷◌, Option, Some, None, Result, Ok, Err, refl, sym, ap, ◌∙◌}
use Rattle.std.specs.Prelude.{◌==◌, ◌||◌, if◌then◌else◌, IfOk, IfErr, is_some, ⊤}
use Rattle.std.proofs.lemmas.Bool.{eqb-true, false≢true}
use Rattle.debver.specs.Names.{name_fault}
use Rattle.version_nodes.specs.Nodes.{Node, node_at}
use Rattle.bug_record.specs.Sets.{Each, has}
use Rattle.bug_record.specs.Desk.{Desk}
use Rattle.bug_record.specs.Images.{numbers_of, member_at, bug_of}
use Rattle.bug_record.specs.Waiting.{waiting_on}
use Rattle.bug_record.specs.declared.bug.Member.{Member}
use Rattle.bug_record.specs.declared.bug.SetImage.{SetImage}
use Rattle.desk_text.specs.Answers.{bad_package_answer, no_bug_answer}
use Rattle.desk_text.specs.Pages.{page_in}
use Rattle.store_contract.specs.Store.{IsImageOf, Answers, AreWaitingOn, Faults}
use Rattle.message_directives.specs.Questions.{Told, refusal, list_at, list_told, page_at, page_told, IsTold, faults_after_question}
use Rattle.message_directives.specs.declared.told.Told.{Told as ToldBytes}
use Rattle.message_directives.specs.declared.told.QuestionFault.{QuestionFault}
use Rattle.message_directives.specs.declared.told.QuestionFault.TheVariants.{Memory, Store}

-- a refusal, for which the store is not asked
pub refused : (told : Told) (text : List ℕ) (asked : Type 0) (d : Desk) (r : Result ToldBytes QuestionFault)
    → told ≡ refusal text → IfOk r (λ t. t.text.items ≡ text) → IfOk r (λ t. t.refused ≡ true) → IfErr r (λ f. f ≡ Memory)
    → IsTold told asked d r d
refused told text asked d (Ok t) e is sure none = (is ∙ sym (ap (λ (x : Told). x.text) e), sure ∙ sym (ap (λ (x : Told). x.refused) e), refl)
refused told text asked d (Err Memory) e is sure none = refl
refused told text asked d (Err (Store fault)) e is sure none = cc

-- what is told, by another name
pub told_so : (a b : Told) (asked : Type 0) (d e : Desk) (r : Result ToldBytes QuestionFault) → b ≡ a → asked → IsTold a ⊤ d r e
    → IsTold b asked d r e
told_so a b asked d e (Ok t) q p h = (h.0 ∙ sym (ap (λ (x : Told). x.text) q), h.1 ∙ sym (ap (λ (x : Told). x.refused) q), h.2)
told_so a b asked d e (Err Memory) q p h = h
told_so a b asked d e (Err (Store fault)) q p h = (p, h.1)

-- the list of a bad name
pub list_of_bad_name : (d : Desk) (name version : List ℕ) → is_some (name_fault name) ≡ true
    → list_told d name version ≡ refusal bad_package_answer
unfolding list_told
list_of_bad_name d name version e =
    ap (λ (b : Bool). if b then refusal bad_package_answer else list_at d name (node_at name version)) e

-- the list of a good one
pub list_of_name : (d : Desk) (name version : List ℕ) (at : Option Node) → is_some (name_fault name) ≡ false
    → node_at name version ≡ at → list_told d name version ≡ list_at d name at
unfolding list_told
list_of_name d name version at e n =
    ap (λ (b : Bool). if b then refusal bad_package_answer else list_at d name (node_at name version)) e ∙ ap (list_at d name) n

-- a number among those of members is one of a member
member_there : (d : Desk) (i : SetImage) (n : ℕ) (ms : List Member) → has (numbers_of ms) n ≡ true
    → Each (λ m. d.bug m.number ≡ Some (bug_of i m)) ms
    → (m : Member) × (member_at ms n ≡ Some m) × (d.bug n ≡ Some (bug_of i m))
member_there d i n [] h e = absurd (false≢true h)
member_there d i n (x ∷ ms) h e = here (x.number == n) refl h (λ h. member_there d i n ms h e.1)
  where
    here : (b : Bool) → (x.number == n) ≡ b → (b || has (numbers_of ms) n) ≡ true
        → (has (numbers_of ms) n ≡ true → (m : Member) × (member_at ms n ≡ Some m) × (d.bug n ≡ Some (bug_of i m)))
        → (m : Member) × ((if b then Some x else member_at ms n) ≡ Some m) × (d.bug n ≡ Some (bug_of i m))
    here true q h later = (x, refl, sym (ap d.bug (eqb-true x.number n q)) ∙ e.0)
    here false q h later = later h

-- the page of a bug of an image
pub page_is : (d : Desk) (i : SetImage) (n : ℕ) → IsImageOf d n (Some i)
    → page_told d n ≡ record { text = page_in i n (waiting_on d n) (member_at i.members n); refused = false }
unfolding page_told
page_is d i n h =
    let m = member_there d i n i.members h.0 h.1 in
    ap (page_at d n) m.2
    ∙ ap (λ (o : Option Member). record { text = page_in i n (waiting_on d n) o; refused = false }) (sym m.1)

-- a page that is told
pub page_answered : (d e : Desk) (i : SetImage) (n : ℕ) (waiting : List ℕ) (asked : Type 0) (r : Result ToldBytes QuestionFault)
    → IsImageOf d n (Some i) → Answers d e (Ok waiting) (AreWaitingOn d n)
    → IfOk r (λ t. t.text.items ≡ page_in i n waiting (member_at i.members n)) → IfOk r (λ t. t.refused ≡ false)
    → IfErr r (λ f. f ≡ Memory) → IsTold (page_told d n) asked d r e
page_answered d e i n waiting asked (Ok t) h w is sure none =
    let p = page_is d i n h in (
      is ∙ ap (λ (ns : List ℕ). page_in i n ns (member_at i.members n)) w.0 ∙ sym (ap (λ (x : Told). x.text) p),
      sure ∙ sym (ap (λ (x : Told). x.refused) p),
      w.1,
    )
page_answered d e i n waiting asked (Err Memory) h w is sure none = w.1
page_answered d e i n waiting asked (Err (Store fault)) h w is sure none = cc

-- no bug of that number
pub page_of_none : (d : Desk) (n : ℕ) → d.bug n ≡ None → page_told d n ≡ refusal (no_bug_answer n)
unfolding page_told
page_of_none d n h = ap (page_at d n) h

-- want of memory is not counted
pub not_counted : (r : Result ToldBytes QuestionFault) (faults : Faults) → IfErr r (λ f. f ≡ Memory) → faults ≡ faults_after_question r faults
not_counted (Ok t) faults none = refl
not_counted (Err Memory) faults none = refl
not_counted (Err (Store fault)) faults none = cc
