-- How an error of the database is answered, and why.
use Rattle.std.specs.Prelude.{◌≡◌, ◌⊎◌, ℕ, false, Result, Ok, Err, ⊤}
use Rattle.sqlite.specs.State.{State}
use Rattle.sqlite.specs.declared.error.Error.{Error}
use Rattle.sqlite.specs.declared.error.Error.TheVariants.{SqliteFailure}
use Rattle.sqlite.specs.declared.error.ErrorCode.TheVariants as code
use Rattle.sqlite_disk.specs.Disk.{MoreFaults}
use Rattle.base_faults.specs.declared.store_fault.StoreFault.{StoreFault}
use Rattle.base_faults.specs.declared.store_fault.StoreFault.TheVariants.{Memory, Device, Full, Foreign}

-- A row that is longer than the database holds, and one for which no rowid is left, are told as
-- want of memory: nothing of the store has failed.
abbrev pub fault_of : Error → StoreFault
fault_of (SqliteFailure code.OutOfMemory) = Memory
fault_of (SqliteFailure code.TooBig) = Memory
fault_of (SqliteFailure code.NoRowid) = Memory
fault_of (SqliteFailure code.SystemIoFailure) = Device
fault_of (SqliteFailure code.DatabaseCorrupt) = Device
fault_of (SqliteFailure code.Closed) = Device
fault_of (SqliteFailure code.DiskFull) = Full
fault_of _ = Foreign

-- what a statement that writes answers, as the desk tells it
abbrev pub written : Result ℕ Error → Result (Unit {0}) StoreFault
written (Ok count) = Ok tt
written (Err e) = Err (fault_of e)

-- what a statement that reads answers
abbrev pub told : {A : Type 0} → Result A Error → Result A StoreFault
told (Ok rows) = Ok rows
told (Err e) = Err (fault_of e)

-- the disk has failed or refused in between, or the connection was shut before
abbrev pub HasFailed : State → State → Type 0
HasFailed old new = MoreFaults old.faults new.faults ⊎ (old.is_open ≡ false)

-- Why a call answers a fault, over a connection that was old and is new.
-- Over states the database excuses want of memory always.
abbrev pub IsFaultOf : State → State → StoreFault → Type 0
IsFaultOf old new Memory = ⊤
IsFaultOf old new Device = HasFailed old new
IsFaultOf old new Full = HasFailed old new
IsFaultOf old new Foreign = ⊥
