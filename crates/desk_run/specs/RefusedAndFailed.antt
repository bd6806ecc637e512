-- What the answers to directives and the end of a message say of a script.
use Rattle.std.specs.Prelude.{ℕ, ◌≡◌, ◌<◌, ◌||◌, Bool, true, false, List, [], length, take, Option, Some, None, Result, Ok, Err}
use Rattle.std.specs.Io.KnownBytes.{Appends}
use Rattle.version_nodes.specs.declared.fault.BranchFault.{BranchFault}
use Rattle.base_faults.specs.declared.store_fault.StoreFault.{StoreFault}
use Rattle.base_faults.specs.declared.store_fault.End.{End}
use Rattle.base_faults.specs.declared.store_fault.End.TheVariants as ends
use Rattle.desk_text.specs.declared.report_fault.ReportFault.{ReportFault}
use Rattle.desk_text.specs.declared.report_fault.ReportFault.TheVariants.{Store}
use Rattle.desk_text.specs.Texts.{fault_text}
use Rattle.control_lines.specs.declared.fault.ScriptFault.{ScriptFault}
use Rattle.control_lines.specs.declared.fault.ScriptFault.TheVariants as stops
use Rattle.message_directives.specs.declared.told.Told.{Told}
use Rattle.message_directives.specs.declared.told.QuestionFault.{QuestionFault}
use Rattle.message_directives.specs.declared.told.QuestionFault.TheVariants as questions

abbrev pub refuses_branch : Result (Result (Unit {0}) BranchFault) StoreFault → Bool
refuses_branch (Ok (Ok done)) = false
refuses_branch (Ok (Err refusal)) = true
refuses_branch (Err fault) = false

abbrev pub fault_of_branch : Result (Result (Unit {0}) BranchFault) StoreFault → Option StoreFault
fault_of_branch (Ok answer) = None
fault_of_branch (Err fault) = Some fault

-- the fault of the store at which a message ended
abbrev pub fault_of_end : End → Option StoreFault
fault_of_end ends.All = None
fault_of_end ends.Stopped = None
fault_of_end ends.TooManyUnreadable = None
fault_of_end (ends.Store fault k) = Some fault

-- the fault of the store at which a report ended
abbrev pub store_fault : ReportFault → Option StoreFault
store_fault (Store fault) = Some fault
store_fault refusal = None

-- The store failed in a directive: the script ends, and what is written is the fault's text, or a
-- front of it at a failed write.
abbrev pub TellsFault : StoreFault → Option (List ℕ) → Option (List ℕ) → Result (Unit {0}) ScriptFault → Type 0
TellsFault fault c0 c1 (Err (stops.Store told)) = (told ≡ fault) × Appends c0 c1 (fault_text fault)
TellsFault fault c0 c1 (Err stops.Write) =
    (n : ℕ) × (n < length (fault_text fault)) × Appends c0 c1 (take n (fault_text fault))
TellsFault fault c0 c1 _ = ⊥

-- A question was answered so: its text is written, and whether it refuses goes into the script's
-- end; or the script ends.
abbrev pub Tells : Result Told QuestionFault → Option (List ℕ) → Option (List ℕ) → Bool → Bool
    → Result (Unit {0}) ScriptFault → Type 0
Tells (Ok told) c0 c1 before now (Ok done) = Appends c0 c1 told.text.items × (now ≡ (before || told.refused))
Tells (Ok told) c0 c1 before now (Err stops.Write) =
    (n : ℕ) × (n < length told.text.items) × Appends c0 c1 (take n told.text.items)
Tells (Err questions.Memory) c0 c1 before now (Err stops.Memory) = Appends c0 c1 []
Tells (Err (questions.Store fault)) c0 c1 before now r = TellsFault fault c0 c1 r
Tells _ c0 c1 before now _ = ⊥
