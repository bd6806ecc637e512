-- A branch that is carried out in parts.
use Rattle.std.proofs.Common.{◌≡◌, inl, inr, ℕ, Bool, ◌∷◌, [], List, Some, None, Result, Ok, Err, true, sym, ◌∙◌}
use Rattle.std.proofs.Common.{ap, subst, refl, append-nil, false, arith}
use Rattle.std.specs.Prelude.{length, ◌==◌, ◌||◌}
use Rattle.std.proofs.lemmas.Bool.{false≢true, eqb-true}
use Rattle.std.proofs.lemmas.Option.{none-some, same_Some}
use Rattle.base_words.specs.Words.{words, has_bytes}
use Rattle.version_nodes.specs.Nodes.{Node}
use Rattle.version_nodes.specs.Trees.{Ancestry}
use Rattle.version_nodes.specs.Branches.{branched}
use Rattle.version_nodes.specs.declared.fault.BranchFault.{BranchFault}
use Rattle.bug_record.specs.Desk.{Desk}
use Rattle.base_faults.specs.declared.store_fault.StoreFault.{StoreFault}
use Rattle.base_faults.specs.declared.store_fault.StoreFault.TheVariants as faults
use Rattle.desk_text.specs.Texts.{fault_text}
use Rattle.store_contract.specs.Store.{Branches, Faults, counted, faults_after}
use Rattle.message_directives.specs.Branches.{BranchRefusal, nodes_of, or_refused, branched_by, branch_of}
use Rattle.message_directives.proofs.BranchLemmas.{after_nodes}
use Rattle.desk_run.specs.Script.{DirectiveLine, Branch, Standing, standing, part_text, part_after, directive_of, branch_text}
use Rattle.desk_run.specs.Script.{after_branch}
use Rattle.desk_run.specs.Running.{AsksStore, FaultsIn}
use Rattle.desk_run.proofs.WrittenLemmas.{Carried}
use Rattle.desk_text.specs.Answers.{branch_answer}
use Rattle.desk_run.specs.RefusedAndFailed.{refuses_branch, fault_of_branch}
use Rattle.desk_run.proofs.PartLemmas.{order_is}

or_false : (b : Bool) → (b || false) ≡ b
or_false true = refl
or_false false = refl

or_true : (b : Bool) → (b || true) ≡ true
or_true true = refl
or_true false = refl

-- what a branch of these nodes comes to
branch_is : (line : List ℕ) (names : List (List ℕ)) (nodes : List Node) (s : Standing) (r : Result Ancestry BranchFault)
    → directive_of line ≡ Branch names → nodes_of names ≡ Some nodes → branched s.desk.tree nodes ≡ r
    → (part_text (DirectiveLine line) s ≡ branch_text (or_refused r))
    × (part_after (DirectiveLine line) s ≡ after_branch (or_refused r) s)
unfolding branch_of
branch_is line names nodes s r e n h =
    let o = order_is line s (Branch names) e in
    let b : branch_of s.desk.tree names ≡ or_refused r = ap (branched_by s.desk.tree) n ∙ ap or_refused h in
    (o.0 ∙ ap branch_text b, o.1 ∙ ap (λ (x : Result Ancestry BranchRefusal). after_branch x s) b)

-- with no fault of the store
pub branch_whole : (line : List ℕ) (names : List (List ℕ)) (nodes : List Node) (s : Standing) (d : Desk)
    (answer : Result (Result (Unit {0}) BranchFault) StoreFault) (refused : Bool) → directive_of line ≡ Branch names
    → nodes_of names ≡ Some nodes
    → fault_of_branch answer ≡ None → refused ≡ (s.refused || refuses_branch answer) → Branches s.desk d answer nodes
    → (standing d s.sender refused ≡ part_after (DirectiveLine line) s)
    × (branch_answer answer ≡ part_text (DirectiveLine line) s)
branch_whole line names nodes s d (Ok (Ok done)) refused e n f r h =
    let o = branch_is line names nodes s (Ok d.tree) e n h.0 in
    ((λ i. standing (h.1 i) s.sender ((r ∙ or_false s.refused) i)) ∙ sym o.1, sym o.0)
branch_whole line names nodes s d (Ok (Err refusal)) refused e n f r h =
    let o = branch_is line names nodes s (Err refusal) e n h.0 in
    ((λ i. standing (h.1 i) s.sender ((r ∙ or_true s.refused) i)) ∙ sym o.1, sym o.0)
branch_whole line names nodes s d (Err fault) refused e n f r h = absurd (none-some fault (sym f))

-- a branch at which the store failed
pub branch_fault : (line : List ℕ) (names : List (List ℕ)) (nodes : List Node) (s : Standing) (d : Desk)
    (answer : Result (Result (Unit {0}) BranchFault) StoreFault) (fault : StoreFault) → directive_of line ≡ Branch names
    → nodes_of names ≡ Some nodes
    → fault_of_branch answer ≡ Some fault → Branches s.desk d answer nodes
    → FaultsIn (DirectiveLine line) s fault d (branch_answer answer)
branch_fault line names nodes s d (Ok answer) fault e n f h = absurd (none-some fault f)
branch_fault line names nodes s d (Err told) fault e n f h =
    (subst AsksStore (sym e) (nodes, n), h, ap fault_text (same_Some told fault f))

pub branch_carried : (line : List ℕ) (names : List (List ℕ)) (nodes : List Node) (s : Standing) (d : Desk) (n0 n1 : Faults)
    (answer : Result (Result (Unit {0}) BranchFault) StoreFault) → directive_of line ≡ Branch names
    → nodes_of names ≡ Some nodes → n1 ≡ faults_after answer n0
    → Branches s.desk d answer nodes → Carried (DirectiveLine line) s d n0 n1 (branch_answer answer)
branch_carried line names nodes s d n0 n1 (Ok answer) e n counted h =
    let w = branch_whole line names nodes s d (Ok answer) (s.refused || refuses_branch (Ok answer)) e n refl refl h in
    inl (ap (λ (x : Standing). x.desk) w.0, w.1, counted)
branch_carried line names nodes s d n0 n1 (Err fault) e n counted h =
    inr (fault, branch_fault line names nodes s d (Err fault) fault e n refl h, counted)

-- how it is counted
pub whole_count : (answer : Result (Result (Unit {0}) BranchFault) StoreFault) (n : Faults) → fault_of_branch answer ≡ None
    → faults_after answer n ≡ n
whole_count (Ok answer) n f = refl
whole_count (Err fault) n f = absurd (none-some fault (sym f))

pub fault_count : (answer : Result (Result (Unit {0}) BranchFault) StoreFault) (fault : StoreFault) (n : Faults)
    → fault_of_branch answer ≡ Some fault → faults_after answer n ≡ counted fault n
fault_count (Ok answer) fault n f = absurd (none-some fault f)
fault_count (Err told) fault n f = ap (λ (x : StoreFault). counted x n) (same_Some told fault f)

-- at most one fault is counted
pub branch_count : (answer : Result (Result (Unit {0}) BranchFault) StoreFault) (n : Faults) →
    (fault : StoreFault) × (faults_after answer n ≡ counted fault n)
branch_count (Ok answer) n = (faults.Memory, refl)
branch_count (Err fault) n = (fault, refl)

-- ---- reading the words

-- a word of no byte, and one of some
pub no_bytes : (word : List ℕ) → (length word == 0) ≡ true → has_bytes word ≡ false
no_bytes [] e = refl
no_bytes (c ∷ s) e = let none : length (c ∷ s) ≡ 0 = eqb-true (length (c ∷ s)) 0 e in absurd (omega arith)

pub some_bytes : (word : List ℕ) → (length word == 0) ≡ false → has_bytes word ≡ true
some_bytes [] e = absurd (false≢true (sym e))
some_bytes (c ∷ s) e = refl

-- nothing is left to read
pub nodes-all : (text rest : List ℕ) (before : List Node) → after_nodes before (words rest) ≡ nodes_of (words text)
    → words rest ≡ [] → nodes_of (words text) ≡ Some before
nodes-all text rest before h e = sym h ∙ ap (after_nodes before) e ∙ ap Some (append-nil before)
