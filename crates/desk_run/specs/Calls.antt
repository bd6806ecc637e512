-- Calls of a store, one after another, and which lines of a message with an id act in them.
-- This project's own rule.
use Rattle.std.specs.Prelude.{ℕ, ◌≡◌, List, [], ◌∷◌, ◌++◌, length, map, take, drop, Option, Some, None, if◌then◌else◌}
use Rattle.std.specs.Str.{bytes_eq}
use Rattle.bug_record.specs.Desk.{Desk}
use Rattle.control_lines.specs.Lines.{lines_of}
use Rattle.base_faults.specs.declared.store_fault.End.{End}
use Rattle.base_faults.specs.declared.store_fault.End.TheVariants.{All}
use Rattle.bug_record.specs.declared.outcome.Outcome.{Outcome}
use Rattle.store_contract.specs.Message.{Entry, machine, after_lines}
use Rattle.store_contract.specs.Kept.{Keeping, outcomes_kept, outcomes_in, lines_told, told, kept_with, IsOfMessage}
use Rattle.store_contract.specs.declared.kept.Kept.{Kept}

-- what a store holds: a desk, and what is kept of messages
abbrev pub State : Type 0
State = Desk × Keeping

pub data Call : Type 0 where
  -- another message, a report, a branch, a question, a fault, a crash and the opening after it:
  -- what is kept of messages stays
  Other : Call
  -- a message of this id, sender and text was sent, and these of its lines were taken, with these
  -- outcomes, before it came to its end, or a fault or a crash stopped it
  Sent : List ℕ → List ℕ → List ℕ → List Entry → Call

-- These lines of a message were taken: they are the first ones that had an outcome and none kept,
-- and the machine took them from the desk and the outcomes that were kept; now theirs are kept too.
pub record Took (id sender message : List ℕ) (taken : List Entry) (old new : State) : Type 0 where
  pub same : IsOfMessage sender message (old.1 id)
  pub next :
      map (λ entry. entry.0) taken
      ≡ take (length taken) (drop (length (outcomes_kept (old.1 id))) (lines_told (lines_of message)))
  pub machine_took :
      after_lines sender (machine old.0 (told (lines_of message) (outcomes_kept (old.1 id)))) (map (λ entry. entry.0) taken)
      ≡ machine new.0 (told (lines_of message) (outcomes_kept (old.1 id)) ++ taken)
  pub kept : new.1 ≡ kept_with id sender message (outcomes_kept (old.1 id) ++ outcomes_in taken) old.1

-- what a call does to what a store holds
abbrev pub Does : Call → State → State → Type 0
Does Other old new = new.1 ≡ old.1
Does (Sent id sender message taken) old new = Took id sender message taken old new

-- one line of a message was taken, with this outcome, as where a crash cuts the message behind it
abbrev pub TookOne : (id sender message : List ℕ) → Outcome → State → State → Type 0
TookOne id sender message outcome old new =
    (line : List ℕ) × Does (Sent id sender message ((line, outcome) ∷ [])) old new

-- the calls were made one after another
abbrev pub InTurn : List Call → State → State → Type 0
InTurn [] old new = new ≡ old
InTurn (call ∷ calls) old new = (between : State) × Does call old between × InTurn calls between new

-- the lines of the message of an id that a call took
abbrev pub taken_by : List ℕ → Call → List Entry
taken_by id Other = []
taken_by id (Sent other sender message taken) = if bytes_eq other id then taken else []

-- those that all calls took, one after another
abbrev pub taken_in : List ℕ → List Call → List Entry
taken_in id [] = []
taken_in id (call ∷ calls) = taken_by id call ++ taken_in id calls

-- the message that is kept of an id, each of its lines that have a kept outcome with that outcome
abbrev pub told_of : Option Kept → List Entry
told_of None = []
told_of (Some k) = told (lines_of k.message) k.outcomes

-- what is kept of an id is of the same message
abbrev pub IsSameMessage : Option Kept → Option Kept → Type 0
IsSameMessage None now = Unit {0}
IsSameMessage (Some k) now = (l : Kept) × (now ≡ Some l) × (l.from ≡ k.from) × (l.message ≡ k.message)

-- A message of this id, sender and text was sent, and was answered with these outcomes and this
-- end:
-- those that were kept, and those of the lines that were taken now; they are those of the first
-- lines that have an outcome, in order, and at `All` of each of them.
pub record IsSent (id sender message : List ℕ) (outcomes : List Entry) (end : End) (old new : State) : Type 0 where
  pub taken : List Entry
  pub took : Does (Sent id sender message taken) old new
  pub shown : outcomes ≡ told (lines_of message) (outcomes_kept (old.1 id)) ++ taken
  pub lines : map (λ entry. entry.0) outcomes ≡ take (length outcomes) (lines_told (lines_of message))
  pub all : end ≡ All → map (λ entry. entry.0) outcomes ≡ lines_told (lines_of message)
