-- How a script stops in one of its parts.
-- This project's own rule.
use Rattle.std.specs.Prelude.{ℕ, ◌≡◌, ◌⊎◌, ◌<◌, List, [], ◌∷◌, ◌++◌, length, take, Option}
use Rattle.std.specs.Prelude.{⊤}
use Rattle.std.specs.Io.KnownBytes.{Appends}
use Rattle.store_contract.specs.Store.{counted}
use Rattle.control_lines.specs.declared.fault.ScriptFault.{ScriptFault}
use Rattle.control_lines.specs.declared.fault.ScriptFault.TheVariants.{Write, Memory, Store}
use Rattle.desk_run.specs.Script.{Part, text_of, after_parts}
use Rattle.desk_run.specs.Running.{Course, Writes, FaultsIn, IsCarried, IsUntold}

-- nothing was carried out or written
abbrev pub IsUnbegun : Course → Type 0
IsUnbegun course =
    (course.desk ≡ course.from.desk) × (course.faults ≡ course.faults_before) × Writes course []

-- How a script stops in a part.
-- At a fault of the store all that is to be written for the part is written; at `Write` a front of
-- it, not all; at `Memory` nothing of it, and the part changed nothing and met no fault, or it is a
-- message whose transcript had no memory.
-- A fault of reading comes in no part.
abbrev pub StopsIn : Part → Course → ScriptFault → Type 0
StopsIn part course (Store fault) =
    (text : List ℕ) × FaultsIn part course.from fault course.desk text
    × (course.faults ≡ counted fault course.faults_before) × Writes course text
StopsIn part course Write =
    (text : List ℕ) × (n : ℕ) × (n < length text) × IsCarried part course text × Writes course (take n text)
StopsIn part course Memory =
    IsUnbegun course ⊎ (IsUntold part course × Writes course [])
StopsIn part course fault = ⊥

-- P is true if the part of this course was begun: at a fault of the store and at `Write` it was,
-- and at `Memory` it may have been.
abbrev pub IfBegun : ScriptFault → Course → Type 0 → Type 0
IfBegun (Store fault) course P = P
IfBegun Write course P = P
IfBegun Memory course P = IsUnbegun course ⊎ P
IfBegun fault course P = ⊤

-- the course of the part after these, where so much was written before it
abbrev pub part_course : Course → List Part → Option (List ℕ) → Course
part_course course before between = record course { from = after_parts before course.from; written_before = between }

-- The parts before one were carried out and their texts written, and in that one the script stops.
-- If that part was begun, P is true of the parts after it.
pub record Stops (parts : List Part) (course : Course) (fault : ScriptFault) (P : List Part → Type 0) : Type 0 where
  pub before : List Part
  pub part : Part
  pub after : List Part
  pub split : parts ≡ before ++ part ∷ after
  -- the bytes written before that part
  pub between : Option (List ℕ)
  pub ran : Appends course.written_before between (text_of before course.from)
  pub stops : StopsIn part (part_course course before between) fault
  pub begun : IfBegun fault (part_course course before between) (P after)
