-- A report that is carried out in parts.
use Rattle.std.proofs.Common.{◌≡◌, ◌≤◌, ◌<◌, ℕ, Bool, true, false, List, Option, Result, Ok, Err, sym, ◌∙◌, ap, refl, arith}
use Rattle.std.proofs.Common.{subst}
use Rattle.std.specs.Prelude.{nat_lt, if◌then◌else◌, IfOk, OnOk, IfSome}
use Rattle.std.specs.Result.{result_ok}
use Rattle.std.proofs.lemmas.Bool.Decides.{nat_tests}
use Rattle.version_nodes.specs.Nodes.{Node, node, node_of, IsRead}
use Rattle.version_nodes.specs.declared.fault.NodeFault.{NodeFault}
use Rattle.version_nodes.proofs.ReadLemmas.{nodes_exactly}
use Rattle.bug_record.specs.Desk.{Desk}
use Rattle.bug_record.specs.Steps.{reported}
use Rattle.bug_record.specs.declared.severity.Severity.{Severity}
use Rattle.desk_text.specs.declared.report_fault.ReportFault.{ReportFault}
use Rattle.desk_text.specs.declared.report_fault.ReportFault.TheVariants.{BadPackage, BadVersion, BadSeverity, BadTitle, Full, Store}
use Rattle.store_contract.specs.Store.{Faults}
use Rattle.message_directives.specs.Reports.{node_reported, report_severity, desk_reported, report_of, IsReported}
use Rattle.message_directives.specs.ReportWords.{IsOfWords}
use Rattle.message_directives.specs.Reports.{faults_after_report, FollowsNext, AsksForNext}
use Rattle.base_faults.specs.declared.store_fault.StoreFault.{StoreFault}

-- words that are refused
words_of : (sender p : List ℕ) (v : Option (List ℕ)) (s t : List ℕ) (d : Desk) (fault : ReportFault)
    → Err fault ≡ report_severity p v s t → report_of d sender p v s t ≡ Err fault
unfolding report_of
words_of sender p v s t d fault e = ap (λ r. desk_reported r d sender p v t) (sym e)

pub words_refused : (sender p : List ℕ) (v : Option (List ℕ)) (s t : List ℕ) (d : Desk) (fault : ReportFault) → IsOfWords fault
    → Err fault ≡ report_severity p v s t → IsReported sender p v s t d (Err fault) d
words_refused sender p v s t d BadPackage o e = (words_of sender p v s t d BadPackage e, refl)
words_refused sender p v s t d BadVersion o e = (words_of sender p v s t d BadVersion e, refl)
words_refused sender p v s t d BadSeverity o e = (words_of sender p v s t d BadSeverity e, refl)
words_refused sender p v s t d BadTitle o e = (words_of sender p v s t d BadTitle e, refl)
words_refused sender p v s t d Full o e = absurd o
words_refused sender p v s t d (Store fault) o e = absurd o

pub words_not_counted : (fault : ReportFault) (faults : Faults) → IsOfWords fault
    → faults ≡ faults_after_report (Err fault) faults
words_not_counted Full faults o = absurd o
words_not_counted (Store fault) faults o = absurd o
words_not_counted _ faults o = refl

-- no number is left
pub report_full : (sender p : List ℕ) (v : Option (List ℕ)) (s t : List ℕ) (d e : Desk) (severity : Severity) (next : ℕ)
    → Ok severity ≡ report_severity p v s t → (next ≡ d.next) × (e ≡ d) → 1000000000 ≤ next
    → IsReported sender p v s t d (Err Full) e
unfolding report_of
report_full sender p v s t d e severity next w n le =
    let m : d.next ≡ next = sym n.0 in
    let b : nat_lt d.next 1000000000 ≡ false = grind (arith, nat_tests) in (
      ap (λ r. desk_reported r d sender p v t) (sym w)
          ∙ ap (λ (x : Bool). if x then Ok (reported d sender p severity t (node_reported p v)) else Err Full) b,
      n.1,
    )

-- the new bug is there
pub report_done : (sender p : List ℕ) (v : Option (List ℕ)) (s t : List ℕ) (d e new : Desk) (severity : Severity) (next : ℕ)
    → Ok severity ≡ report_severity p v s t → (next ≡ d.next) × (e ≡ d) → next < 1000000000
    → new ≡ reported e sender p severity t (node_reported p v) → IsReported sender p v s t d (Ok next) new
unfolding report_of
report_done sender p v s t d e new severity next w n lt is =
    let m : d.next ≡ next = sym n.0 in
    let b : nat_lt d.next 1000000000 ≡ true = grind (arith, nat_tests) in (
      ap (λ r. desk_reported r d sender p v t) (sym w)
          ∙ (ap (λ (x : Bool). if x then Ok (reported d sender p severity t (node_reported p v)) else Err Full) b
          ∙ ap Ok (ap (λ (z : Desk). reported z sender p severity t (node_reported p v)) (sym n.1) ∙ sym is)),
      n.0,
    )

-- a report whose words are refused asks for no number
pub asks_not : {S : Type 0} (gives : S → S → Result ℕ StoreFault → Type 0) (old : S) (words : Result Severity ReportFault)
    (fault : ReportFault) (answer : Result ℕ ReportFault) → Err fault ≡ words → OnOk words (AsksForNext gives old answer)
asks_not gives old words fault answer e =
    subst (λ (r : Result Severity ReportFault). OnOk r (AsksForNext gives old answer)) e tt

-- one whose words are good asks for it first
pub asks_first : {S : Type 0} (gives : S → S → Result ℕ StoreFault → Type 0) (old asked : S) (words : Result Severity ReportFault)
    (severity : Severity) (next : Result ℕ StoreFault) (answer : Result ℕ ReportFault) → Ok severity ≡ words
    → gives old asked next → FollowsNext next answer → OnOk words (AsksForNext gives old answer)
asks_first gives old asked words severity next answer e given follows =
    subst (λ (r : Result Severity ReportFault). OnOk r (AsksForNext gives old answer)) e
    (record { next = next; asked = asked; gives = given; follows = follows })

-- where a number is left
pub some_left : (next : ℕ) (answer : Result ℕ ReportFault) → next < 1000000000 → FollowsNext (Ok next) answer
some_left next answer few many = absurd (omega (arith, few, many))

-- the node that is read of two texts has these
pub of-two-texts : (source version : List ℕ) (r : Result Node NodeFault) → IsRead (node_of source version) r
    → IfOk r (λ n. n ≡ node source version)
of-two-texts source version (Ok n) read = ((nodes_exactly source version n).0 read).0
of-two-texts source version (Err fault) read = tt

-- what is known of a value where there is one
pub of_ok : {T E : Type 0} (r : Result T E) (o : Option T) (P : T → Type 0) → o ≡ result_ok r → IfOk r P → IfSome o P
of_ok (Ok v) o P e h = subst (λ z. IfSome z P) (sym e) h
of_ok (Err fault) o P e h = subst (λ z. IfSome z P) (sym e) tt
