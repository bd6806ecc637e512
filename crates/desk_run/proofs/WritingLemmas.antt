-- Texts that are written one after another, and the parts that they are of.
use Rattle.std.proofs.Common.{◌≡◌, inr, ℕ, ◌+◌, ◌<◌, List, ◌++◌, length, length-append, take, arith, sym, ap, subst}
use Rattle.std.proofs.Common.{Option, Some, None, Result, Ok, Err, refl}
use Rattle.std.proofs.lemmas.Option.{none-some, same_Some}
use Rattle.std.specs.Prelude.{OnOk, OnErr}
use Rattle.std.specs.Io.KnownBytes.{Appends}
use Rattle.std.proofs.KnownBytes.{Appends-trans}
use Rattle.std.proofs.Math.Seq.{take-append-add}
use Rattle.std.proofs.lemmas.List.{take-append-le}
use Rattle.bug_record.specs.Desk.{Desk}
use Rattle.base_faults.specs.declared.store_fault.End.{End}
use Rattle.base_faults.specs.declared.store_fault.StoreFault.{StoreFault}
use Rattle.desk_text.specs.Texts.{fault_text}
use Rattle.desk_text.specs.Answers.{refused_line, report_refusal, report_answer}
use Rattle.desk_text.specs.declared.report_fault.ReportFault.{ReportFault}
use Rattle.desk_text.specs.declared.report_fault.ReportFault.TheVariants as reports
use Rattle.desk_run.specs.RefusedAndFailed.{store_fault}
use Rattle.store_contract.specs.Store.{Faults, counted, faults_after_end}
use Rattle.store_contract.specs.Message.{Entry, IsReceived}
use Rattle.message_receiving.specs.Ends.{IsLineOf}
use Rattle.message_directives.specs.Transcripts.{received_text}
use Rattle.control_lines.specs.declared.fault.ScriptFault.{ScriptFault}
use Rattle.control_lines.specs.declared.fault.ScriptFault.TheVariants as stops
use Rattle.desk_run.specs.Script.{Part, Message, Standing}
use Rattle.desk_run.specs.Running.{IsCounted}
use Rattle.desk_run.specs.Stopping.{StopsIn}
use Rattle.desk_run.specs.Carrying.{IsOfPart}
use Rattle.desk_run.specs.Writing.{IsWritten, IsTranscribed}
use Rattle.desk_run.proofs.WrittenLemmas.{course, Carried}
use Rattle.desk_run.proofs.PartLemmas.{fault_of, received_carried, received_untold}

-- ---- one text and another

pub is_written : (text : List ℕ) (c0 c1 : Option (List ℕ)) (r : Result (Unit {0}) ScriptFault) → OnOk r (Appends c0 c1 text)
    → OnErr r ((n : ℕ) × (n < length text) × Appends c0 c1 (take n text)) → OnErr r (r ≡ Err stops.Write)
    → IsWritten text c0 c1 r
is_written text c0 c1 (Ok done) all some write = all
is_written text c0 c1 (Err fault) all some write =
    subst (λ (f : ScriptFault). IsWritten text c0 c1 (Err f)) (sym (ap (fault_of fault) write)) some

pub written_then : (a b : List ℕ) (c0 c1 c2 : Option (List ℕ)) (r : Result (Unit {0}) ScriptFault) → Appends c0 c1 a
    → IsWritten b c1 c2 r → IsWritten (a ++ b) c0 c2 r
written_then a b c0 c1 c2 (Ok done) p q = Appends-trans c0 c1 c2 a b p q
written_then a b c0 c1 c2 (Err stops.Write) p q = (
  length a + q.0,
  omega (arith, q.1, length-append a b),
  subst (Appends c0 c2) (sym (take-append-add a b q.0)) (Appends-trans c0 c1 c2 a (take q.0 b) p q.2),
)
written_then a b c0 c1 c2 (Err stops.Memory) p q = absurd q
written_then a b c0 c1 c2 (Err stops.Read) p q = absurd q
written_then a b c0 c1 c2 (Err (stops.Store f)) p q = absurd q
written_then a b c0 c1 c2 (Err (stops.NotUtf8 k)) p q = absurd q
written_then a b c0 c1 c2 (Err (stops.LineTooLong k)) p q = absurd q

pub written_front : (a b : List ℕ) (c0 c1 : Option (List ℕ)) (fault : ScriptFault) → IsWritten a c0 c1 (Err fault)
    → IsWritten (a ++ b) c0 c1 (Err fault)
written_front a b c0 c1 stops.Write p = (
  p.0,
  omega (arith, p.1, length-append a b),
  subst (Appends c0 c1) (sym (take-append-le p.0 a b (omega (arith, p.1)))) p.2,
)
written_front a b c0 c1 stops.Memory p = absurd p
written_front a b c0 c1 stops.Read p = absurd p
written_front a b c0 c1 (stops.Store f) p = absurd p
written_front a b c0 c1 (stops.NotUtf8 k) p = absurd p
written_front a b c0 c1 (stops.LineTooLong k) p = absurd p

-- a text written after the outcomes of a message
pub transcribed : (outcomes : List Entry) (text : List ℕ) (c0 c1 : Option (List ℕ)) (r : Result (Unit {0}) ScriptFault)
    → IsWritten text c0 c1 r → IsTranscribed outcomes text c0 c1 r
transcribed outcomes text c0 c1 (Ok done) p = p
transcribed outcomes text c0 c1 (Err stops.Write) p = p
transcribed outcomes text c0 c1 (Err stops.Memory) p = absurd p
transcribed outcomes text c0 c1 (Err stops.Read) p = absurd p
transcribed outcomes text c0 c1 (Err (stops.Store f)) p = absurd p
transcribed outcomes text c0 c1 (Err (stops.NotUtf8 k)) p = absurd p
transcribed outcomes text c0 c1 (Err (stops.LineTooLong k)) p = absurd p

-- the answer to a report that failed or is refused
pub failed_text : (refusal : ReportFault) (fault : StoreFault) → store_fault refusal ≡ Some fault
    → report_answer (Err refusal) ≡ fault_text fault
failed_text (reports.Store told) fault e = ap fault_text (same_Some told fault e)
failed_text _ fault e = absurd (none-some fault e)

pub refused_text : (refusal : ReportFault) → store_fault refusal ≡ None
    → report_answer (Err refusal) ≡ refused_line (report_refusal refusal)
refused_text (reports.Store fault) e = absurd (none-some fault (sym e))
refused_text reports.BadPackage e = refl
refused_text reports.BadVersion e = refl
refused_text reports.BadSeverity e = refl
refused_text reports.BadTitle e = refl
refused_text reports.Full e = refl

-- ---- a part whose text could not be written

pub unwritten : (part : Part) (s : Standing) (d : Desk) (n0 n1 : Faults) (c0 c1 : Option (List ℕ)) (text : List ℕ)
    (fault : ScriptFault) → Carried part s d n0 n1 text → IsWritten text c0 c1 (Err fault)
    → StopsIn part (course s d n0 n1 c0 c1) fault
unwritten part s d n0 n1 c0 c1 text stops.Write h p = (text, p.0, p.1, h, p.2)
unwritten part s d n0 n1 c0 c1 text stops.Memory h p = absurd p
unwritten part s d n0 n1 c0 c1 text stops.Read h p = absurd p
unwritten part s d n0 n1 c0 c1 text (stops.Store f) h p = absurd p
unwritten part s d n0 n1 c0 c1 text (stops.NotUtf8 k) h p = absurd p
unwritten part s d n0 n1 c0 c1 text (stops.LineTooLong k) h p = absurd p

pub unwritten_own : (text : List ℕ) (c0 c1 : Option (List ℕ)) (fault : ScriptFault) → IsWritten text c0 c1 (Err fault)
    → IsOfPart fault
unwritten_own text c0 c1 stops.Write p = tt
unwritten_own text c0 c1 stops.Memory p = absurd p
unwritten_own text c0 c1 stops.Read p = absurd p
unwritten_own text c0 c1 (stops.Store f) p = absurd p
unwritten_own text c0 c1 (stops.NotUtf8 k) p = absurd p
unwritten_own text c0 c1 (stops.LineTooLong k) p = absurd p

pub unwritten_counted : (text : List ℕ) (c0 c1 : Option (List ℕ)) (n0 n1 : Faults) (fault : ScriptFault)
    → (f : StoreFault) × (n1 ≡ counted f n0) → IsWritten text c0 c1 (Err fault) → IsCounted {T = Unit {0}} (Err fault) n0 n1
unwritten_counted text c0 c1 n0 n1 stops.Write n p = n
unwritten_counted text c0 c1 n0 n1 stops.Memory n p = absurd p
unwritten_counted text c0 c1 n0 n1 stops.Read n p = absurd p
unwritten_counted text c0 c1 n0 n1 (stops.Store f) n p = absurd p
unwritten_counted text c0 c1 n0 n1 (stops.NotUtf8 k) n p = absurd p
unwritten_counted text c0 c1 n0 n1 (stops.LineTooLong k) n p = absurd p

-- ---- a message whose transcript could not be written, or had no memory

pub received_unwritten : (lines : List (List ℕ)) (s : Standing) (outcomes : List Entry) (end : End) (d : Desk) (n0 n1 : Faults)
    (c0 c1 : Option (List ℕ)) (fault : ScriptFault) → n1 ≡ faults_after_end end n0
    → IsReceived s.sender lines s.desk outcomes end d → IsLineOf end lines
    → IsTranscribed outcomes (received_text outcomes end lines) c0 c1 (Err fault)
    → StopsIn (Message lines) (course s d n0 n1 c0 c1) fault
received_unwritten lines s outcomes end d n0 n1 c0 c1 stops.Write n h l p =
    (received_text outcomes end lines, p.0, p.1, received_carried lines s outcomes end d n0 n1 n h l, p.2)
received_unwritten lines s outcomes end d n0 n1 c0 c1 stops.Memory n h l p =
    inr (received_untold lines s outcomes end d n0 n1 n h l p.0, p.1)
received_unwritten lines s outcomes end d n0 n1 c0 c1 stops.Read n h l p = absurd p
received_unwritten lines s outcomes end d n0 n1 c0 c1 (stops.Store f) n h l p = absurd p
received_unwritten lines s outcomes end d n0 n1 c0 c1 (stops.NotUtf8 k) n h l p = absurd p
received_unwritten lines s outcomes end d n0 n1 c0 c1 (stops.LineTooLong k) n h l p = absurd p

pub transcribed_own : (outcomes : List Entry) (text : List ℕ) (c0 c1 : Option (List ℕ)) (fault : ScriptFault)
    → IsTranscribed outcomes text c0 c1 (Err fault) → IsOfPart fault
transcribed_own outcomes text c0 c1 stops.Write p = tt
transcribed_own outcomes text c0 c1 stops.Memory p = tt
transcribed_own outcomes text c0 c1 stops.Read p = absurd p
transcribed_own outcomes text c0 c1 (stops.Store f) p = absurd p
transcribed_own outcomes text c0 c1 (stops.NotUtf8 k) p = absurd p
transcribed_own outcomes text c0 c1 (stops.LineTooLong k) p = absurd p

pub transcribed_counted : (outcomes : List Entry) (text : List ℕ) (c0 c1 : Option (List ℕ)) (n0 n1 : Faults) (fault : ScriptFault)
    → (f : StoreFault) × (n1 ≡ counted f n0) → IsTranscribed outcomes text c0 c1 (Err fault)
    → IsCounted {T = Unit {0}} (Err fault) n0 n1
transcribed_counted outcomes text c0 c1 n0 n1 stops.Write n p = n
transcribed_counted outcomes text c0 c1 n0 n1 stops.Memory n p = n
transcribed_counted outcomes text c0 c1 n0 n1 stops.Read n p = absurd p
transcribed_counted outcomes text c0 c1 n0 n1 (stops.Store f) n p = absurd p
transcribed_counted outcomes text c0 c1 n0 n1 (stops.NotUtf8 k) n p = absurd p
transcribed_counted outcomes text c0 c1 n0 n1 (stops.LineTooLong k) n p = absurd p
