-- How the program ends: exit statuses, and what is said on the error output.
-- This project's own rule.
use Rattle.std.specs.Prelude.{ℕ, ◌<◌, ◌++◌, Bool, true, false, List, [], length, take, codes, decimal, Option, Result, Ok, Err, if◌then◌else◌}
use Rattle.std.specs.Io.KnownBytes.{Appends}
use Rattle.sqlite.specs.declared.error.Error.{Error}
use Rattle.sqlite.specs.declared.error.Error.TheVariants.{SqliteFailure}
use Rattle.sqlite.specs.declared.error.ErrorCode.TheVariants as code
use Rattle.base_faults.specs.Faults.{fault_message}
use Rattle.base_faults.specs.declared.store_fault.StoreFault.TheVariants as stores
use Rattle.base_faults.specs.declared.store_fault.End.{End}
use Rattle.base_faults.specs.declared.store_fault.End.TheVariants as messages
use Rattle.store_contract.specs.Message.{Entry}
use Rattle.control_lines.specs.declared.fault.ScriptFault.{ScriptFault}
use Rattle.control_lines.specs.declared.fault.ScriptFault.TheVariants as scripts
use Rattle.desk_run.specs.Script.{refuses}
use Rattle.desk_run.specs.declared.script.ScriptEnd.{ScriptEnd}
use Rattle.desk_run.specs.declared.script.ScriptEnd.TheVariants as ends
use Rattle.desk_http.specs.declared.port.ServerFault.{ServerFault}
use Rattle.desk_http.specs.declared.port.ServerFault.TheVariants as servers
use Rattle.table_opening.specs.declared.open_fault.OpenFault.{OpenFault}
use Rattle.table_opening.specs.declared.open_fault.OpenFault.TheVariants as openings
use Rattle.program_jobs.specs.declared.ending.Cause.{Cause}
use Rattle.program_jobs.specs.declared.ending.Cause.TheVariants.{Memory, Input, Output, NotUtf8, LineTooLong, Store, ServedStore, Port}
use Rattle.program_jobs.specs.declared.ending.Cause.TheVariants.{NoFile, InUse, NotADesk, NewerSchema, NotEmpty, CannotOpen}
use Rattle.program_jobs.specs.declared.ending.JobEnd.{JobEnd}
use Rattle.program_jobs.specs.declared.ending.JobEnd.TheVariants.{Done, Refused, BadWords, Fault}

-- the exit status of an end
abbrev pub status_of : JobEnd → ℕ
status_of Done = 0
status_of Refused = 1
status_of BadWords = 2
status_of (Fault cause) = 3

-- why a script was not run to its end
abbrev pub cause_of_script : ScriptFault → Cause
cause_of_script scripts.Read = Input
cause_of_script scripts.Write = Output
cause_of_script (scripts.NotUtf8 line) = NotUtf8 line
cause_of_script (scripts.LineTooLong line) = LineTooLong line
cause_of_script scripts.Memory = Memory
cause_of_script (scripts.Store fault) = Store fault

-- how the job of a script ends
abbrev pub end_of_script : Result ScriptEnd ScriptFault → JobEnd
end_of_script (Ok ends.Accepted) = Done
end_of_script (Ok ends.Refused) = Refused
end_of_script (Err fault) = Fault (cause_of_script fault)

-- how a job ends whose output is handed on at last, or can't be
abbrev pub end_by_output : Bool → JobEnd → JobEnd
end_by_output false Done = Fault Output
end_by_output false Refused = Fault Output
end_by_output is_written end = end

-- how the job of a server on a port ends
abbrev pub end_of_server : ℕ → Result (Unit {0}) ServerFault → JobEnd
end_of_server port (Ok done) = Done
end_of_server port (Err servers.Bind) = Fault (Port port)
end_of_server port (Err servers.Write) = Fault Output
end_of_server port (Err servers.Store) = Fault ServedStore

-- How the job of a message ends that came to these outcomes and this end: a refusal, or too many
-- lines that could not be read, refuse it.
abbrev pub end_of_message : List Entry → End → JobEnd
end_of_message outcomes (messages.Store fault line) = Fault (Store fault)
end_of_message outcomes last = if refuses outcomes last then Refused else Done

-- why a file is not opened as a database
abbrev pub cause_of_error : Error → Cause
cause_of_error (SqliteFailure code.CannotOpen) = CannotOpen
cause_of_error (SqliteFailure code.DatabaseBusy) = InUse
cause_of_error (SqliteFailure code.NotADatabase) = NotADesk
cause_of_error (SqliteFailure code.DatabaseCorrupt) = NotADesk
cause_of_error (SqliteFailure code.OutOfMemory) = Store stores.Memory
cause_of_error (SqliteFailure code.DiskFull) = Store stores.Full
cause_of_error (SqliteFailure code.TooBig) = Store stores.Full
cause_of_error _ = Store stores.Device

-- why a database is not opened as a desk's, or made one
abbrev pub cause_of_opening : OpenFault → Cause
cause_of_opening openings.NotADesk = NotADesk
cause_of_opening (openings.NewerSchema number) = NewerSchema number
cause_of_opening (openings.Store fault) = Store fault
cause_of_opening openings.NotEmpty = NotEmpty

-- what is said of a cause
abbrev pub cause_message : Cause → List ℕ
cause_message Memory = codes "out of memory"
cause_message Input = codes "standard input can't be read"
cause_message Output = codes "standard output can't be written"
cause_message (NotUtf8 line) = codes "line " ++ (decimal line ++ codes ": not UTF-8")
cause_message (LineTooLong line) = codes "line " ++ (decimal line ++ codes ": longer than 65,536 bytes")
cause_message (Store fault) = fault_message fault
cause_message ServedStore = codes "the store failed while it was served"
cause_message (Port port) = codes "port " ++ (decimal port ++ codes " can't be listened on")
cause_message NoFile = codes "the store's file is not there"
cause_message InUse = codes "the store's file is in use by another process"
cause_message NotADesk = codes "the store's file is no desk"
cause_message (NewerSchema number) =
    codes "the store's file has the schema " ++ (decimal number ++ codes " of a later version")
cause_message NotEmpty = codes "the store's file holds a desk already"
cause_message CannotOpen = codes "the store's file can't be opened"

-- the line that tells a cause
abbrev pub cause_line : Cause → List ℕ
cause_line cause = codes "bts: " ++ (cause_message cause ++ codes "\n")

-- what is said of an end: two lines of bad words and of a fault
abbrev pub complaint_of : JobEnd → List ℕ
complaint_of Done = []
complaint_of Refused = []
complaint_of BadWords = codes "bts: bad words\nbts: try --help\n"
complaint_of (Fault cause) = codes "bts: fault\n" ++ cause_line cause

-- a text was written, whole, or else a front of it, not all
abbrev pub IsWritten : List ℕ → Bool → Option (List ℕ) → Option (List ℕ) → Type 0
IsWritten text true e0 e1 = Appends e0 e1 text
IsWritten text false e0 e1 = (n : ℕ) × (n < length text) × Appends e0 e1 (take n text)

-- the complaint of an end was written, whole where it was told, and else a front of it
abbrev pub IsTold : JobEnd → Bool → Option (List ℕ) → Option (List ℕ) → Type 0
IsTold end told e0 e1 = IsWritten (complaint_of end) told e0 e1
