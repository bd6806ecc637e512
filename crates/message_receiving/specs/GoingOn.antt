-- A message that has an id, as it goes on.
use Rattle.std.specs.Prelude.{ℕ, ◌≡◌, List, Result, Ok, Err}
use Rattle.bug_record.specs.Desk.{Desk}
use Rattle.bug_record.specs.Words.{Names}
use Rattle.control_grammar.specs.Lines.{reading}
use Rattle.control_lines.specs.Lines.{lines_of}
use Rattle.store_contract.specs.Progress.{HaveNumbers}
use Rattle.base_faults.specs.declared.store_fault.End.{End}
use Rattle.base_faults.specs.declared.store_fault.StoreFault.{StoreFault}
use Rattle.store_contract.specs.Crashes.{Holding}
use Rattle.store_contract.specs.Message.{Entry, machine, takes}
use Rattle.store_contract.specs.Kept.{Keeping, IsOfMessage, IsResumed, outcomes_kept, outcomes_in, told, kept_with}
use Rattle.message_receiving.specs.Crashes.{LeavesTried, held_by}

-- These are the message's outcomes so far, which are kept of its id, and its names have numbers.
pub record IsBegun (id sender message : List ℕ) (kept : Keeping) (outcomes : List Entry) (known : Names) : Type 0 where
  pub same : IsOfMessage sender message (kept id)
  pub kept_are : outcomes_kept (kept id) ≡ outcomes_in outcomes
  pub told_are : told (lines_of message) (outcomes_in outcomes) ≡ outcomes
  pub numbers : HaveNumbers known

-- where these outcomes were kept beside what was kept at first, those are
abbrev pub KeepsOn : (id sender message : List ℕ) → Keeping → List Entry → Keeping → List Entry → Type 0
KeepsOn id sender message old before new after =
    (first : Keeping) → old ≡ kept_with id sender message (outcomes_in before) first
    → new ≡ kept_with id sender message (outcomes_in after) first

-- one line taken: what the machine does, and its outcome is kept; or a fault and no change
pub record TakesOn (id sender message : List ℕ) (old new : Desk) (kept now : Keeping) (before after : List Entry) (known : Names)
    (line : List ℕ) : Type 0 where
  pub takes_line : takes sender (machine old before) line (reading line) ≡ machine new after
  pub begun : IsBegun id sender message now after known
  pub keeps : KeepsOn id sender message kept before now after

abbrev pub TakesOnce : (id sender message : List ℕ) → Desk → Desk → Keeping → Keeping → List Entry → List Entry → Names
    → Result End StoreFault → List ℕ → Type 0
TakesOnce id sender message old new kept now before after known (Ok end) line =
    TakesOn id sender message old new kept now before after known line
TakesOnce id sender message old new kept now before after known (Err fault) line = (new ≡ old) × (now ≡ kept)

-- the rest of the lines taken
pub record Resumes (id sender message : List ℕ) (old new : Desk) (kept now : Keeping) (before after : List Entry) (end : End) : Type 0
  where
    pub resumed : IsResumed sender (lines_of message) (outcomes_in before) old after end new
    pub keeps : KeepsOn id sender message kept before now after

-- what a crash leaves after one line: what is held now; or, where it failed, also what the line
-- would have made, kept beside what was kept at first
abbrev pub LeavesLine : {S : Type 0} → (S → Holding → Holding → Type 0) → S → S → (id sender message : List ℕ) → Holding
    → List Entry → List ℕ → Result End StoreFault → Holding → Type 0
LeavesLine leaves old new id sender message before outcomes line (Ok end) now = LeavesTried leaves old new before now now
LeavesLine leaves old new id sender message before outcomes line (Err fault) now =
    (first : Keeping) → before.1 ≡ kept_with id sender message (outcomes_in outcomes) first
    → LeavesTried leaves old new before now
    (held_by id sender message first (takes sender (machine before.0 outcomes) line (reading line)))
