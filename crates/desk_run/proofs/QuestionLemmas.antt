-- Questions of a script.
use Rattle.std.proofs.Common.{◌≡◌, inl, inr, ℕ, Bool, List, sym, ◌∙◌, ap, subst, refl, Option, Result, Ok, Err}
use Rattle.std.specs.Prelude.{◌||◌}
use Rattle.bug_record.specs.Desk.{Desk}
use Rattle.desk_text.specs.Texts.{fault_text}
use Rattle.base_faults.specs.declared.store_fault.StoreFault.{StoreFault}
use Rattle.store_contract.specs.Store.{Faults, counted}
use Rattle.control_lines.specs.declared.fault.ScriptFault.{ScriptFault}
use Rattle.control_lines.specs.declared.fault.ScriptFault.TheVariants as stops
use Rattle.message_directives.specs.Questions.{Told, IsTold, faults_after_question}
use Rattle.message_directives.specs.declared.told.Told.{Told as ToldBytes}
use Rattle.message_directives.specs.declared.told.QuestionFault.{QuestionFault}
use Rattle.message_directives.specs.declared.told.QuestionFault.TheVariants as questions
use Rattle.desk_run.specs.Script.{DirectiveLine, Directive, Standing, standing, directive_of, directive_text, after_directive}
use Rattle.desk_run.specs.Script.{after_question}
use Rattle.desk_run.specs.Running.{AsksStore, FaultsIn}
use Rattle.desk_run.specs.Stopping.{StopsIn}
use Rattle.desk_run.specs.Carrying.{Carries}
use Rattle.desk_run.proofs.WrittenLemmas.{course}
use Rattle.desk_run.specs.RefusedAndFailed.{Tells, TellsFault}
use Rattle.desk_run.proofs.PartLemmas.{order_done, order_unwritten}

-- the store failed in a question
asked_fault : (line : List ℕ) (s : Standing) (d : Desk) (directive : Directive) (asked : Type 0) (fault : StoreFault)
    → directive ≡ directive_of line → (asked → AsksStore directive) → asked × (d ≡ s.desk)
    → FaultsIn (DirectiveLine line) s fault d (fault_text fault)
asked_fault line s d directive asked fault e asks h = (subst AsksStore e (asks h.0), h.1, refl)

fault_carried : (line : List ℕ) (s b : Standing) (n0 n1 : Faults) (c0 c1 : Option (List ℕ)) (directive : Directive)
    (asked : Type 0) (fault : StoreFault) (r : Result (Unit {0}) ScriptFault) → directive ≡ directive_of line
    → (asked → AsksStore directive) → n1 ≡ counted fault n0 → asked × (b.desk ≡ s.desk) → TellsFault fault c0 c1 r
    → Carries (DirectiveLine line) b.sender b.refused (course s b.desk n0 n1 c0 c1) r
fault_carried line s b n0 n1 c0 c1 directive asked fault (Ok done) e asks n h t = absurd t
fault_carried line s b n0 n1 c0 c1 directive asked fault (Err (stops.Store told)) e asks n h t =
    subst (λ (f : StoreFault). StopsIn (DirectiveLine line) (course s b.desk n0 n1 c0 c1) (stops.Store f)) (sym t.0)
    (fault_text fault, asked_fault line s b.desk directive asked fault e asks h, n, t.1)
fault_carried line s b n0 n1 c0 c1 directive asked fault (Err stops.Write) e asks n h t =
    (fault_text fault, t.0, t.1, inr (fault, asked_fault line s b.desk directive asked fault e asks h, n), t.2)
fault_carried line s b n0 n1 c0 c1 directive asked fault (Err stops.Memory) e asks n h t = absurd t
fault_carried line s b n0 n1 c0 c1 directive asked fault (Err stops.Read) e asks n h t = absurd t
fault_carried line s b n0 n1 c0 c1 directive asked fault (Err (stops.NotUtf8 k)) e asks n h t = absurd t
fault_carried line s b n0 n1 c0 c1 directive asked fault (Err (stops.LineTooLong k)) e asks n h t = absurd t

-- an answer is told
told_carried : (line : List ℕ) (s : Standing) (sender : List ℕ) (d : Desk) (n0 n1 : Faults) (c0 c1 : Option (List ℕ))
    (directive : Directive) (told : Told) (asked : Type 0) (answer : ToldBytes) (refused : Bool)
    (r : Result (Unit {0}) ScriptFault)
    → directive ≡ directive_of line → directive_text directive s ≡ told.text
    → after_directive directive s ≡ after_question told s → n1 ≡ n0 → sender ≡ s.sender
    → IsTold told asked s.desk (Ok answer) d → Tells (Ok answer) c0 c1 s.refused refused r
    → Carries (DirectiveLine line) sender refused (course s d n0 n1 c0 c1) r
told_carried line s sender d n0 n1 c0 c1 directive told asked answer refused (Ok done) e text after n same h t =
    order_done line s (standing d sender refused) c0 c1 answer.text.items directive e
    ((λ i. standing (h.2 i) (same i) ((t.1 ∙ ap (λ (b : Bool). s.refused || b) h.1) i)) ∙ sym after)
    (h.0 ∙ sym text) t.0
told_carried line s sender d n0 n1 c0 c1 directive told asked answer refused (Err stops.Write) e text after n same h t =
    subst (λ (m : Faults). StopsIn (DirectiveLine line) (course s d n0 m c0 c1) stops.Write) (sym n)
    (order_unwritten line s d n0 c0 c1 answer.text.items t.0 directive e (h.2 ∙ sym (ap (λ (x : Standing). x.desk) after))
    (h.0 ∙ sym text) t.1 t.2)
told_carried line s sender d n0 n1 c0 c1 directive told asked answer refused (Err (stops.Store f)) e text after n same h t = absurd t
told_carried line s sender d n0 n1 c0 c1 directive told asked answer refused (Err stops.Memory) e text after n same h t = absurd t
told_carried line s sender d n0 n1 c0 c1 directive told asked answer refused (Err stops.Read) e text after n same h t = absurd t
told_carried line s sender d n0 n1 c0 c1 directive told asked answer refused (Err (stops.NotUtf8 k)) e text after n same h t = absurd t
told_carried line s sender d n0 n1 c0 c1 directive told asked answer refused (Err (stops.LineTooLong k)) e text after n same h t =
    absurd t

-- no memory for an answer
untold_carried : (line : List ℕ) (s b : Standing) (n0 n1 : Faults) (c0 c1 : Option (List ℕ)) (r : Result (Unit {0}) ScriptFault)
    → n1 ≡ n0 → b.desk ≡ s.desk → Tells (Err questions.Memory) c0 c1 s.refused b.refused r
    → Carries (DirectiveLine line) b.sender b.refused (course s b.desk n0 n1 c0 c1) r
untold_carried line s b n0 n1 c0 c1 (Ok done) n h t = absurd t
untold_carried line s b n0 n1 c0 c1 (Err stops.Memory) n h t = inl (h, n, t)
untold_carried line s b n0 n1 c0 c1 (Err stops.Write) n h t = absurd t
untold_carried line s b n0 n1 c0 c1 (Err (stops.Store f)) n h t = absurd t
untold_carried line s b n0 n1 c0 c1 (Err stops.Read) n h t = absurd t
untold_carried line s b n0 n1 c0 c1 (Err (stops.NotUtf8 k)) n h t = absurd t
untold_carried line s b n0 n1 c0 c1 (Err (stops.LineTooLong k)) n h t = absurd t

-- a question of a script is carried out, or the script stops in it
pub question_carried : (line : List ℕ) (s : Standing) (sender : List ℕ) (d : Desk) (n0 n1 : Faults) (c0 c1 : Option (List ℕ))
    (directive : Directive) (told : Told) (asked : Type 0) (answer : Result ToldBytes QuestionFault) (refused : Bool)
    (r : Result (Unit {0}) ScriptFault)
    → directive ≡ directive_of line → directive_text directive s ≡ told.text
    → after_directive directive s ≡ after_question told s → (asked → AsksStore directive) → n1 ≡ faults_after_question answer n0
    → sender ≡ s.sender
    → IsTold told asked s.desk answer d → Tells answer c0 c1 s.refused refused r
    → Carries (DirectiveLine line) sender refused (course s d n0 n1 c0 c1) r
question_carried line s sender d n0 n1 c0 c1 directive told asked (Ok answer) refused r e text after asks n same h t =
    told_carried line s sender d n0 n1 c0 c1 directive told asked answer refused r e text after n same h t
question_carried line s sender d n0 n1 c0 c1 directive told asked (Err questions.Memory) refused r e text after asks n same h t =
    untold_carried line s (standing d sender refused) n0 n1 c0 c1 r n h t
question_carried line s sender d n0 n1 c0 c1 directive told asked (Err (questions.Store f)) refused r e text after asks n same h t =
    fault_carried line s (standing d sender refused) n0 n1 c0 c1 directive asked f r e asks n h t
