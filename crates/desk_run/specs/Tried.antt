-- What a crash leaves after a script, or a part of one, at which the store may have failed: the
-- desk after the lines that were answered, or after one line more.
-- This project's own rule.
use Rattle.std.specs.Prelude.{ℕ, ◌≡◌, ◌⊎◌, ◌+◌, List, ◌∷◌, ◌++◌, take, Result, Ok, Err}
use Rattle.bug_record.specs.Desk.{Desk}
use Rattle.store_contract.specs.Crashes.{Holding}
use Rattle.store_contract.specs.Kept.{Keeping}
use Rattle.store_contract.specs.Message.{after_lines, at_start}
use Rattle.store_contract.specs.Tried.{LeavesTried}
use Rattle.control_lines.specs.declared.fault.ScriptFault.{ScriptFault}
use Rattle.desk_run.specs.Script.{Part, Message, DirectiveLine, Standing, directive_of, after_directive, after_parts}

-- the desk after so many lines of a message
abbrev pub desk_within : List (List ℕ) → ℕ → Standing → Desk
desk_within lines k s = (after_lines s.sender (at_start s.desk) (take k lines)).desk

-- the first desk is that after some lines of the part, and the second that after one line more
abbrev pub IsNextIn : Part → Standing → Desk → Desk → Type 0
IsNextIn (Message lines) s now next = (k : ℕ) × (now ≡ desk_within lines k s) × (next ≡ desk_within lines (k + 1) s)
IsNextIn (DirectiveLine line) s now next = (now ≡ s.desk) × (next ≡ (after_directive (directive_of line) s).desk)

-- The first desk is that after some lines of these parts, and the second that after one line more.
pub record IsNextOf (parts : List Part) (from : Standing) (now next : Desk) : Type 0 where
  pub before : List Part
  pub part : Part
  pub after : List Part
  pub split : parts ≡ before ++ part ∷ after
  pub within : IsNextIn part (after_parts before from) now next

-- Where a crash as a call began left the desk of a script alone, as it returns it leaves the
-- present desk, or that after the next line, and no other; after `Ok` the present desk alone.
abbrev pub LeavesParts : {S T : Type 0} → (S → Holding → Holding → Type 0) → S → S → Keeping → List Part → Standing → Desk
    → Result T ScriptFault → Type 0
LeavesParts leaves old new kept parts from now (Ok done) = LeavesTried leaves old new kept from.desk now now
LeavesParts leaves old new kept parts from now (Err fault) =
    (next : Desk) × ((next ≡ now) ⊎ IsNextOf parts from now next) × LeavesTried leaves old new kept from.desk now next
