-- What a crash leaves after a message that has an id, at which the store may have failed.
-- This project's own rule.
use Rattle.std.specs.Prelude.{ℕ, List, take, drop, length, Result, Ok, Err}
use Rattle.bug_record.specs.Desk.{Desk}
use Rattle.base_faults.specs.declared.store_fault.End.{End}
use Rattle.base_faults.specs.declared.store_fault.End.TheVariants.{All, Stopped, TooManyUnreadable, Store}
use Rattle.bug_record.specs.declared.outcome.Outcome.{Outcome}
use Rattle.control_lines.specs.Lines.{lines_of}
use Rattle.store_contract.specs.declared.outcomes_so_far.Received.{Received}
use Rattle.store_contract.specs.Crashes.{Holding}
use Rattle.store_contract.specs.Kept.{Keeping, lines_told, told, outcomes_in, outcomes_kept, kept_with}
use Rattle.store_contract.specs.Message.{Machine, machine, after_lines}
use Rattle.message_receiving.specs.declared.once.OnceFault.{OnceFault}

-- Where a crash as a call began left the store's holding and no other, a crash as it returns leaves
-- what it holds now, or what was tried, and no other.
abbrev pub LeavesTried : {S : Type 0} → (S → Holding → Holding → Type 0) → S → S → Holding → Holding → Holding → Type 0
LeavesTried leaves old new before now tried = leaves old before before → leaves new now tried

-- the machine's desk, and its outcomes, which are kept of the id beside what was kept
abbrev pub held_by : (id sender message : List ℕ) → Keeping → Machine → Holding
held_by id sender message kept m = (m.desk, kept_with id sender message (outcomes_in m.outcomes) kept)

-- the machine after the first k lines of a message, where it goes on after these kept outcomes
abbrev pub resumed_to : List ℕ → List (List ℕ) → List Outcome → Desk → ℕ → Machine
resumed_to sender lines kept old k =
    after_lines sender (machine old (told lines kept)) (drop (length kept) (lines_told (take k lines)))

-- What a message tried to leave of a holding as it ended: where the store failed at line k, what is
-- held once line k is taken too, and its outcome is kept, if it has one.
abbrev pub tried_once : (id sender message : List ℕ) → Holding → End → Holding → Holding
tried_once id sender message before All now = now
tried_once id sender message before Stopped now = now
tried_once id sender message before TooManyUnreadable now = now
tried_once id sender message before (Store fault k) now =
    held_by id sender message before.1 (resumed_to sender (lines_of message) (outcomes_kept (before.1 id)) before.0 k)

-- after a message that is taken, a crash leaves what is held now or what was tried; after one that
-- is not, what it could have left before
abbrev pub LeavesOnce : {S : Type 0} → (S → Holding → Holding → Type 0) → S → S → (id sender message : List ℕ) → Holding
    → Result Received OnceFault → Holding → Type 0
LeavesOnce leaves old new id sender message before (Ok r) now =
    LeavesTried leaves old new before now (tried_once id sender message before r.end now)
LeavesOnce leaves old new id sender message before (Err fault) now = (a b : Holding) → leaves old a b → leaves new a b
