-- Parts of a script, carried out one at a time.
use Rattle.std.proofs.Common.{◌≡◌, inl, inr, ℕ, Bool, true, ◌<◌, length, List, take, sym, ◌∙◌, ap, subst, refl, Option, Some}
use Rattle.std.proofs.Common.{None, Result, Ok, Err}
use Rattle.std.specs.Prelude.{◌||◌, ◌≢◌, [], OnOk, OnErr}
use Rattle.std.proofs.lemmas.Option.{none-some, same_Some}
use Rattle.std.specs.Io.KnownBytes.{Appends}
use Rattle.bug_record.specs.Desk.{Desk}
use Rattle.desk_text.specs.Texts.{fault_text}
use Rattle.base_faults.specs.declared.store_fault.StoreFault.{StoreFault}
use Rattle.base_faults.specs.declared.store_fault.StoreFault.TheVariants as faults
use Rattle.base_faults.specs.declared.store_fault.End.{End}
use Rattle.base_faults.specs.declared.store_fault.End.TheVariants as ends
use Rattle.store_contract.specs.Store.{Faults, counted, faults_after_end}
use Rattle.store_contract.specs.Message.{Entry, Machine, machine, after_lines, at_start, IsReceived, Comes}
use Rattle.message_directives.specs.Transcripts.{received_text}
use Rattle.message_directives.specs.Reports.{report_of, IsReported, faults_after_report}
use Rattle.desk_run.specs.Script.{Part, Message, DirectiveLine, Directive, Report, Standing, standing, part_text, part_after}
use Rattle.desk_run.specs.Script.{message_text, after_message, refuses, directive_of, directive_text, after_directive}
use Rattle.desk_run.specs.Script.{report_text, after_report}
use Rattle.message_receiving.specs.Ends.{IsLineOf}
use Rattle.desk_run.specs.Running.{AsksStore, FailsAt, FaultsIn, IsUntold}
use Rattle.desk_run.specs.Stopping.{StopsIn}
use Rattle.desk_run.specs.Carrying.{Carries}
use Rattle.desk_text.specs.Answers.{report_answer}
use Rattle.desk_run.specs.RefusedAndFailed.{fault_of_end, store_fault}
use Rattle.desk_text.specs.declared.report_fault.ReportFault.{ReportFault}
use Rattle.desk_text.specs.declared.report_fault.ReportFault.TheVariants as reports
use Rattle.control_lines.specs.declared.fault.ScriptFault.{ScriptFault}
use Rattle.control_lines.specs.declared.fault.ScriptFault.TheVariants as stops
use Rattle.desk_run.proofs.WrittenLemmas.{appends_none, course, Carried}

-- what a message comes to
message_is : (lines : List (List ℕ)) (s : Standing) (m : Machine) → after_lines s.sender (at_start s.desk) lines ≡ m
    → (part_text (Message lines) s ≡ message_text m lines) × (part_after (Message lines) s ≡ after_message m s)
unfolding part_text part_after
message_is lines s m e = (ap (λ (n : Machine). message_text n lines) e, ap (λ (n : Machine). after_message n s) e)

message_whole : (lines : List (List ℕ)) (s : Standing) (outcomes : List Entry) (end : End) (d : Desk)
    → Comes s.sender lines s.desk outcomes end d
    → (part_text (Message lines) s ≡ received_text outcomes end lines)
    × (part_after (Message lines) s ≡ standing d s.sender (s.refused || refuses outcomes end))
message_whole lines s outcomes end d h =
    let m = message_is lines s (machine d outcomes) h.after in (
      m.0 ∙ ap (λ (x : End). received_text outcomes x lines) h.end_is,
      m.1 ∙ ap (λ (x : End). standing d s.sender (s.refused || refuses outcomes x)) h.end_is,
    )

carried_whole : (lines : List (List ℕ)) (s : Standing) (outcomes : List Entry) (end : End) (d : Desk) (n0 n1 : Faults) → n1 ≡ n0
    → Comes s.sender lines s.desk outcomes end d → Carried (Message lines) s d n0 n1 (received_text outcomes end lines)
carried_whole lines s outcomes end d n0 n1 n h =
    let w = message_whole lines s outcomes end d h in
    inl (sym (ap (λ (x : Standing). x.desk) w.1), sym w.0, n)

-- a message that was received is carried out, whole or up to a fault
pub received_carried : (lines : List (List ℕ)) (s : Standing) (outcomes : List Entry) (end : End) (d : Desk) (n0 n1 : Faults)
    → n1 ≡ faults_after_end end n0 → IsReceived s.sender lines s.desk outcomes end d → IsLineOf end lines
    → Carried (Message lines) s d n0 n1 (received_text outcomes end lines)
received_carried lines s outcomes ends.All d n0 n1 n h l = carried_whole lines s outcomes ends.All d n0 n1 n h
received_carried lines s outcomes ends.Stopped d n0 n1 n h l = carried_whole lines s outcomes ends.Stopped d n0 n1 n h
received_carried lines s outcomes ends.TooManyUnreadable d n0 n1 n h l =
    carried_whole lines s outcomes ends.TooManyUnreadable d n0 n1 n h
received_carried lines s outcomes (ends.Store fault k) d n0 n1 n h l = inr (fault, (outcomes, k, (h, l), refl), n)

-- there was no memory for its transcript
abbrev Untold : List (List ℕ) → Standing → Desk → Faults → Faults → Type 0
Untold lines s d n0 n1 = IsUntold (Message lines) (course s d n0 n1 None None)

untold_whole : (lines : List (List ℕ)) (s : Standing) (outcomes : List Entry) (end : End) (d : Desk) (n0 n1 : Faults) → n1 ≡ n0
    → Comes s.sender lines s.desk outcomes end d → Untold lines s d n0 n1
untold_whole lines s outcomes end d n0 n1 n h =
    inl (sym (ap (λ (x : Standing). x.desk) (message_is lines s (machine d outcomes) h.after).1), n)

pub received_untold : (lines : List (List ℕ)) (s : Standing) (outcomes : List Entry) (end : End) (d : Desk) (n0 n1 : Faults)
    → n1 ≡ faults_after_end end n0 → IsReceived s.sender lines s.desk outcomes end d → IsLineOf end lines → outcomes ≢ []
    → Untold lines s d n0 n1
received_untold lines s outcomes ends.All d n0 n1 n h l some = untold_whole lines s outcomes ends.All d n0 n1 n h
received_untold lines s outcomes ends.Stopped d n0 n1 n h l some = untold_whole lines s outcomes ends.Stopped d n0 n1 n h
received_untold lines s outcomes ends.TooManyUnreadable d n0 n1 n h l some =
    untold_whole lines s outcomes ends.TooManyUnreadable d n0 n1 n h
received_untold lines s outcomes (ends.Store fault k) d n0 n1 n h l some = inr (fault, outcomes, k, (h, l), some, n)

-- at a fault of the store
pub received_fault : (lines : List (List ℕ)) (s : Standing) (outcomes : List Entry) (end : End) (d : Desk) (fault : StoreFault)
    → fault_of_end end ≡ Some fault → IsReceived s.sender lines s.desk outcomes end d → IsLineOf end lines
    → FaultsIn (Message lines) s fault d (received_text outcomes end lines)
received_fault lines s outcomes ends.All d fault e h l = absurd (none-some fault e)
received_fault lines s outcomes ends.Stopped d fault e h l = absurd (none-some fault e)
received_fault lines s outcomes ends.TooManyUnreadable d fault e h l = absurd (none-some fault e)
received_fault lines s outcomes (ends.Store other k) d fault e h l =
    let same : other ≡ fault = same_Some other fault e in (
      outcomes,
      k,
      subst (λ (f : StoreFault). FailsAt lines s f d outcomes k) same (h, l),
      ap (λ (f : StoreFault). received_text outcomes (ends.Store f k) lines) same,
    )

-- at the message's end
pub received_whole : (lines : List (List ℕ)) (s : Standing) (outcomes : List Entry) (end : End) (d : Desk) (refused : Bool)
    → fault_of_end end ≡ None → refused ≡ (s.refused || refuses outcomes end) → IsReceived s.sender lines s.desk outcomes end d
    → (standing d s.sender refused ≡ part_after (Message lines) s)
    × (received_text outcomes end lines ≡ part_text (Message lines) s)
received_whole lines s outcomes ends.All d refused e r h = let w = message_whole lines s outcomes ends.All d h in
    (ap (standing d s.sender) r ∙ sym w.1, sym w.0)
received_whole lines s outcomes ends.Stopped d refused e r h = let w = message_whole lines s outcomes ends.Stopped d h in
    (ap (standing d s.sender) r ∙ sym w.1, sym w.0)
received_whole lines s outcomes ends.TooManyUnreadable d refused e r h = let w =
    message_whole lines s outcomes ends.TooManyUnreadable d h in (ap (standing d s.sender) r ∙ sym w.1, sym w.0)
received_whole lines s outcomes (ends.Store fault k) d refused e r h = absurd (none-some fault (sym e))

-- a directive, by what its line says
pub order_is : (line : List ℕ) (s : Standing) (directive : Directive) → directive_of line ≡ directive
    → (part_text (DirectiveLine line) s ≡ directive_text directive s)
    × (part_after (DirectiveLine line) s ≡ after_directive directive s)
unfolding part_text part_after
order_is line s directive e = (ap (λ (d : Directive). directive_text d s) e, ap (λ (d : Directive). after_directive d s) e)

-- a directive carried out
pub order_done : (line : List ℕ) (s b : Standing) (c0 c1 : Option (List ℕ)) (text : List ℕ) (directive : Directive)
    → directive ≡ directive_of line → b ≡ after_directive directive s → text ≡ directive_text directive s → Appends c0 c1 text
    → (b ≡ part_after (DirectiveLine line) s) × Appends c0 c1 (part_text (DirectiveLine line) s)
order_done line s b c0 c1 text directive e f t h =
    let o = order_is line s directive (sym e) in
    (f ∙ sym o.1, subst (Appends c0 c1) (t ∙ sym o.0) h)

-- its text not all written
pub order_unwritten : (line : List ℕ) (s : Standing) (d : Desk) (faults : Faults) (c0 c1 : Option (List ℕ)) (text : List ℕ)
    (n : ℕ) (directive : Directive) → directive ≡ directive_of line → d ≡ (after_directive directive s).desk
    → text ≡ directive_text directive s → n < length text → Appends c0 c1 (take n text)
    → StopsIn (DirectiveLine line) (course s d faults faults c0 c1) stops.Write
order_unwritten line s d faults c0 c1 text n directive e f t few h =
    let o = order_is line s directive (sym e) in
    (text, n, few, inl (f ∙ sym (ap (λ (x : Standing). x.desk) o.1), t ∙ sym o.0, refl), h)

-- a directive that is refused before the store is asked
abbrev pub fault_of : ScriptFault → Result (Unit {0}) ScriptFault → ScriptFault
fault_of other (Ok done) = other
fault_of other (Err fault) = fault

pub order_refused : (line : List ℕ) (s : Standing) (sender : List ℕ) (refused : Bool) (faults : Faults)
    (c0 c1 : Option (List ℕ)) (text : List ℕ) (directive : Directive) (r : Result (Unit {0}) ScriptFault)
    → directive ≡ directive_of line → after_directive directive s ≡ standing s.desk s.sender true
    → text ≡ directive_text directive s
    → OnOk r (Appends c0 c1 text) → OnErr r ((n : ℕ) × (n < length text) × Appends c0 c1 (take n text))
    → OnErr r (r ≡ Err stops.Write) → OnOk r (refused ≡ true) → sender ≡ s.sender
    → Carries (DirectiveLine line) sender refused (course s s.desk faults faults c0 c1) r
order_refused line s sender refused faults c0 c1 text directive (Ok done) e after t all some write told same =
    order_done line s (standing s.desk sender refused) c0 c1 text directive e
    ((λ i. standing s.desk (same i) (told i)) ∙ sym after) t all
order_refused line s sender refused faults c0 c1 text directive (Err fault) e after t all some write told same =
    subst (λ (f : ScriptFault). StopsIn (DirectiveLine line) (course s s.desk faults faults c0 c1) f) (sym (ap (fault_of fault) write))
    (order_unwritten line s s.desk faults c0 c1 text some.0 directive e (ap (λ (x : Standing). x.desk) (sym after)) t some.1
    some.2)

-- out of memory before anything was done
pub not_begun : (part : Part) (s : Standing) (d : Desk) (n0 n1 : Faults) (c : Option (List ℕ)) → d ≡ s.desk → n1 ≡ n0
    → StopsIn part (course s d n0 n1 c c) stops.Memory
not_begun part s d n0 n1 c e n = inl (e, n, appends_none c)

-- what a report comes to
report_is : (line p : List ℕ) (v : Option (List ℕ)) (sev t : List ℕ) (s : Standing) (r : Result Desk ReportFault)
    → directive_of line ≡ Report p v sev t → report_of s.desk s.sender p v sev t ≡ r
    → (part_text (DirectiveLine line) s ≡ report_text r s.desk.next) × (part_after (DirectiveLine line) s ≡ after_report r s)
report_is line p v sev t s r e h =
    let o = order_is line s (Report p v sev t) e in (
      o.0 ∙ ap (λ (x : Result Desk ReportFault). report_text x s.desk.next) h,
      o.1
          ∙ ap (λ (x : Result Desk ReportFault). after_report x s) h,
    )

refused_carried : (line p : List ℕ) (v : Option (List ℕ)) (sev t : List ℕ) (s : Standing) (d : Desk) (n0 n1 : Faults)
    (fault : ReportFault) → directive_of line ≡ Report p v sev t
    → n1 ≡ n0 → (report_of s.desk s.sender p v sev t ≡ Err fault) × (d ≡ s.desk)
    → Carried (DirectiveLine line) s d n0 n1 (report_text (Err fault) s.desk.next)
refused_carried line p v sev t s d n0 n1 fault e n h =
    let o = report_is line p v sev t s (Err fault) e h.0 in
    inl (h.1 ∙ sym (ap (λ (x : Standing). x.desk) o.1), sym o.0, n)

pub reported_carried : (line p : List ℕ) (v : Option (List ℕ)) (sev t : List ℕ) (s : Standing) (d : Desk) (n0 n1 : Faults)
    (answer : Result ℕ ReportFault) → directive_of line ≡ Report p v sev t → n1 ≡ faults_after_report answer n0
    → IsReported s.sender p v sev t s.desk answer d
    → Carried (DirectiveLine line) s d n0 n1 (report_answer answer)
reported_carried line p v sev t s d n0 n1 (Ok number) e n h =
    let o = report_is line p v sev t s (Ok d) e h.0 in
    inl (sym (ap (λ (x : Standing). x.desk) o.1), ap (λ (k : ℕ). report_text (Ok d) k) h.1 ∙ sym o.0, n)
reported_carried line p v sev t s d n0 n1 (Err (reports.Store fault)) e n h =
    inr (fault, (subst AsksStore (sym e) (h.0, h.1), h.2, refl), n)
reported_carried line p v sev t s d n0 n1 (Err reports.BadPackage) e n h =
    refused_carried line p v sev t s d n0 n1 reports.BadPackage e n h
reported_carried line p v sev t s d n0 n1 (Err reports.BadVersion) e n h =
    refused_carried line p v sev t s d n0 n1 reports.BadVersion e n h
reported_carried line p v sev t s d n0 n1 (Err reports.BadSeverity) e n h =
    refused_carried line p v sev t s d n0 n1 reports.BadSeverity e n h
reported_carried line p v sev t s d n0 n1 (Err reports.BadTitle) e n h =
    refused_carried line p v sev t s d n0 n1 reports.BadTitle e n h
reported_carried line p v sev t s d n0 n1 (Err reports.Full) e n h = refused_carried line p v sev t s d n0 n1 reports.Full e n h

pub reported_whole : (line p : List ℕ) (v : Option (List ℕ)) (sev t : List ℕ) (s : Standing) (d : Desk) (number : ℕ)
    → directive_of line ≡ Report p v sev t → IsReported s.sender p v sev t s.desk (Ok number) d
    → (standing d s.sender s.refused ≡ part_after (DirectiveLine line) s)
    × (report_answer (Ok number) ≡ part_text (DirectiveLine line) s)
reported_whole line p v sev t s d number e h =
    let o = report_is line p v sev t s (Ok d) e h.0 in
    (sym o.1, ap (λ (n : ℕ). report_text (Ok d) n) h.1 ∙ sym o.0)

refused_is : (line p : List ℕ) (v : Option (List ℕ)) (sev t : List ℕ) (s : Standing) (d : Desk) (fault : ReportFault)
    → directive_of line ≡ Report p v sev t → (report_of s.desk s.sender p v sev t ≡ Err fault) × (d ≡ s.desk)
    → (standing d s.sender true ≡ part_after (DirectiveLine line) s)
    × (report_text (Err fault) s.desk.next ≡ part_text (DirectiveLine line) s)
refused_is line p v sev t s d fault e h =
    let o = report_is line p v sev t s (Err fault) e h.0 in
    (ap (λ (x : Desk). standing x s.sender true) h.1 ∙ sym o.1, sym o.0)

pub reported_refused : (line p : List ℕ) (v : Option (List ℕ)) (sev t : List ℕ) (s : Standing) (d : Desk) (fault : ReportFault)
    → store_fault fault ≡ None → directive_of line ≡ Report p v sev t → IsReported s.sender p v sev t s.desk (Err fault) d
    → (standing d s.sender true ≡ part_after (DirectiveLine line) s)
    × (report_answer (Err fault) ≡ part_text (DirectiveLine line) s)
reported_refused line p v sev t s d (reports.Store fault) n e h = absurd (none-some fault (sym n))
reported_refused line p v sev t s d reports.BadPackage n e h = refused_is line p v sev t s d reports.BadPackage e h
reported_refused line p v sev t s d reports.BadVersion n e h = refused_is line p v sev t s d reports.BadVersion e h
reported_refused line p v sev t s d reports.BadSeverity n e h = refused_is line p v sev t s d reports.BadSeverity e h
reported_refused line p v sev t s d reports.BadTitle n e h = refused_is line p v sev t s d reports.BadTitle e h
reported_refused line p v sev t s d reports.Full n e h = refused_is line p v sev t s d reports.Full e h

-- a report at which the store failed
pub reported_fault : (line p : List ℕ) (v : Option (List ℕ)) (sev t : List ℕ) (s : Standing) (d : Desk) (fault : ReportFault)
    (of_store : StoreFault) → store_fault fault ≡ Some of_store → directive_of line ≡ Report p v sev t
    → IsReported s.sender p v sev t s.desk (Err fault) d
    → FaultsIn (DirectiveLine line) s of_store d (report_answer (Err fault))
reported_fault line p v sev t s d (reports.Store fault) f e says h =
    (subst AsksStore (sym says) (h.0, h.1), h.2, ap fault_text (same_Some fault f e))
reported_fault line p v sev t s d reports.BadPackage f e says h = absurd (none-some f e)
reported_fault line p v sev t s d _ f e says h = absurd (none-some f e)

-- how it is counted
pub refused_count : (fault : ReportFault) (n : Faults) → store_fault fault ≡ None → faults_after_report (Err fault) n ≡ n
refused_count (reports.Store fault) n e = absurd (none-some fault (sym e))
refused_count _ n e = refl

pub fault_count : (fault : ReportFault) (f : StoreFault) (n : Faults) → store_fault fault ≡ Some f
    → faults_after_report (Err fault) n ≡ counted f n
fault_count (reports.Store fault) f n e = ap (λ (x : StoreFault). counted x n) (same_Some fault f e)
fault_count _ f n e = absurd (none-some f e)

pub end_count : (end : End) (fault : StoreFault) (n : Faults) → fault_of_end end ≡ Some fault
    → faults_after_end end n ≡ counted fault n
end_count ends.All fault n e = absurd (none-some fault e)
end_count ends.Stopped fault n e = absurd (none-some fault e)
end_count ends.TooManyUnreadable fault n e = absurd (none-some fault e)
end_count (ends.Store told k) fault n e = ap (λ (x : StoreFault). counted x n) (same_Some told fault e)

-- at most one fault is counted
pub report_count : (answer : Result ℕ ReportFault) (n : Faults) →
    (fault : StoreFault) × (faults_after_report answer n ≡ counted fault n)
report_count (Ok number) n = (faults.Memory, refl)
report_count (Err (reports.Store fault)) n = (fault, refl)
report_count (Err reports.BadPackage) n = (faults.Memory, refl)
report_count (Err reports.BadVersion) n = (faults.Memory, refl)
report_count (Err reports.BadSeverity) n = (faults.Memory, refl)
report_count (Err reports.BadTitle) n = (faults.Memory, refl)
report_count (Err reports.Full) n = (faults.Memory, refl)

pub message_count : (end : End) (n : Faults) → (fault : StoreFault) × (faults_after_end end n ≡ counted fault n)
message_count ends.All n = (faults.Memory, refl)
message_count ends.Stopped n = (faults.Memory, refl)
message_count ends.TooManyUnreadable n = (faults.Memory, refl)
message_count (ends.Store fault k) n = (fault, refl)
