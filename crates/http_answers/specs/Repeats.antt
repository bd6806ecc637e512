-- What a control message that has an id is answered.
-- This project's own rule.
use Rattle.std.specs.Prelude.{ℕ, ◌≡◌, ◌≢◌, ◌⊎◌, ◌&&◌, Bool, true, List, length, take, drop, Option, Some, None, codes}
use Rattle.std.specs.Prelude.{if◌then◌else◌}
use Rattle.std.specs.Str.{bytes_eq}
use Rattle.bug_record.specs.Desk.{Desk}
use Rattle.http_routes.specs.Members.{Control}
use Rattle.control_lines.specs.Lines.{lines_of}
use Rattle.bug_record.specs.declared.outcome.Outcome.{Outcome}
use Rattle.base_faults.specs.declared.store_fault.End.{End}
use Rattle.base_faults.specs.declared.store_fault.End.TheVariants as ends
use Rattle.base_faults.specs.declared.store_fault.StoreFault.{StoreFault}
use Rattle.base_faults.specs.declared.store_fault.StoreFault.TheVariants.{Memory}
use Rattle.store_contract.specs.Message.{Entry, Machine, machine, after_lines, end_of}
use Rattle.store_contract.specs.Kept.{outcomes_kept, outcomes_in, told, lines_told, kept_with, IsOfMessage, IsResumed, GoesOn}
use Rattle.store_contract.specs.declared.kept.Kept.{Kept}
use Rattle.http_requests.specs.Answer.{Answer, json_answer, store_fault}
use Rattle.http_answers.specs.Answers.{message_json}
use Rattle.http_answers.specs.Faults.{IsAnswer}
use Rattle.http_requests.specs.Requests.{Asked, Always, Once}
use Rattle.http_answers.specs.Stored.{Stored}

-- the id stands for another message already
abbrev pub id_in_use : Answer
id_in_use = json_answer 409 (codes "{\"error\":\"id in use\"}")

-- whether what is kept of the id, if anything is, is of this sender and this text
abbrev pub is_of_message : List ℕ → List ℕ → Option Kept → Bool
is_of_message sender message None = true
is_of_message sender message (Some k) = bytes_eq k.from sender && bytes_eq k.message message

-- the machine after a message of these lines of which these outcomes were kept
abbrev pub resumed : List ℕ → List (List ℕ) → List Outcome → Desk → Machine
resumed sender lines kept d = after_lines sender (machine d (told lines kept)) (drop (length kept) (lines_told lines))

-- its end and its transcript, of all its outcomes; those are kept
abbrev pub answered_resumed : Machine → List ℕ → Control → Stored → Answer × Stored
answered_resumed m id c s = (
  json_answer 200 (message_json m.outcomes (end_of m.outcomes) (lines_of c.message)),
  record { desk = m.desk; kept = kept_with id c.from c.message (outcomes_in m.outcomes) s.kept },
)

-- A message with an id is answered with all its outcomes, those of earlier times too; where the id
-- is known with another sender or text it is refused.
abbrev pub answered_once : List ℕ → Control → Stored → Answer × Stored
answered_once id c s =
    if is_of_message c.from c.message (s.kept id)
    then answered_resumed (resumed c.from (lines_of c.message) (outcomes_kept (s.kept id)) s.desk) id c s
    else (id_in_use, s)

-- The store failed at a line of the message, and memory had not run out: the lines before it were
-- taken and their outcomes are kept, and the answer has their transcript and tells the fault.
pub record TellsOnceCut (id : List ℕ) (c : Control) (old : Stored) (fault : StoreFault) (answer : Answer) (new : Stored) :
    Type 0 where
  pub outcomes : List Entry
  pub line : ℕ
  pub not_memory : fault ≢ Memory
  pub same : IsOfMessage c.from c.message (old.kept id)
  pub resumed :
      IsResumed c.from (lines_of c.message) (outcomes_kept (old.kept id)) old.desk outcomes (ends.Store fault line) new.desk
  pub kept : new.kept ≡ kept_with id c.from c.message (outcomes_in outcomes) old.kept
  pub is : answer ≡ json_answer 500 (message_json outcomes (ends.Store fault line) (lines_of c.message))

-- of the lines that have no kept outcome some from the first, none or all, were taken, and their
-- outcomes are kept
pub record IsAfterMore (id : List ℕ) (c : Control) (old new : Stored) : Type 0 where
  pub count : ℕ
  pub outcomes : List Entry
  pub end : End
  pub same : IsOfMessage c.from c.message (old.kept id)
  pub goes :
      GoesOn c.from (drop (length (outcomes_kept (old.kept id))) (lines_told (take count (lines_of c.message)))) old.desk
      (told (lines_of c.message) (outcomes_kept (old.kept id))) outcomes end new.desk
  pub kept : new.kept ≡ kept_with id c.from c.message (outcomes_in outcomes) old.kept

-- What is answered where this fault is met: the transcript up to there, or the fixed answer, at
-- which nothing has changed, or some lines were taken.
abbrev pub IsOnceCut : List ℕ → Control → Stored → StoreFault → Answer → Stored → Type 0
IsOnceCut id c old fault answer new =
    TellsOnceCut id c old fault answer new
    ⊎ ((answer ≡ store_fault) × ((new ≡ old) ⊎ IsAfterMore id c old new))

-- what a message with an id is answered, where this fault was met or none
abbrev pub IsOnceAnswer : List ℕ → Control → Stored → Option StoreFault → Answer → Stored → Type 0
IsOnceAnswer id c old None answer new = answered_once id c old ≡ (answer, new)
IsOnceAnswer id c old (Some fault) answer new = IsOnceCut id c old fault answer new

-- What is answered to what was asked, where this fault was met or none, and what the store holds
-- after it: what is kept of messages stays unless one with an id was asked.
abbrev pub IsAskedAnswer : Asked → Stored → Option StoreFault → Answer → Stored → Type 0
IsAskedAnswer (Always request) old fault answer new = IsAnswer request old.desk fault answer new.desk × (new.kept ≡ old.kept)
IsAskedAnswer (Once id c) old fault answer new = IsOnceAnswer id c old fault answer new
