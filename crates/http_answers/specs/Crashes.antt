-- What a crash leaves of a store, as a request is answered.
-- This project's own rule.
use Rattle.std.specs.Prelude.{ℕ, ◌≡◌, ◌+◌, ◌⊎◌, List, take, Option, Some, None}
use Rattle.base_faults.specs.declared.store_fault.StoreFault.{StoreFault}
use Rattle.control_lines.specs.Lines.{lines_of}
use Rattle.http_routes.specs.Members.{Control}
use Rattle.http_requests.specs.Requests.{Request, PostBug, PostControl, PostBranch, GetBug, GetList, Asked, Always, Once}
use Rattle.store_contract.specs.Crashes.{Holding}
use Rattle.store_contract.specs.Kept.{outcomes_kept}
use Rattle.store_contract.specs.Message.{at_start, after_lines}
use Rattle.message_receiving.specs.Crashes.{held_by, resumed_to}
use Rattle.http_answers.specs.Answers.{answer_to}

-- what is held once a report or a branch is carried out
abbrev pub holding_after : Request → Holding → Holding
holding_after request before = ((answer_to request before.0).1, before.1)

-- what is held after the first k lines of a message
abbrev pub holding_at : Control → Holding → ℕ → Holding
holding_at c before k = ((after_lines c.from (at_start before.0) (take k (lines_of c.message))).desk, before.1)

-- the same of a message that has an id, where it goes on after the outcomes that are kept of it
abbrev pub holding_once_at : List ℕ → Control → Holding → ℕ → Holding
holding_once_at id c before k =
    held_by id c.from c.message before.1 (resumed_to c.from (lines_of c.message) (outcomes_kept (before.1 id)) before.0 k)

-- What would be held after one step more than now: once the report or the branch is carried out, or
-- the message's next line is taken.
-- A question has no step.
abbrev pub IsNextOf : Asked → Holding → Holding → Holding → Type 0
IsNextOf (Always (PostBug report)) before now next = (now ≡ before) × (next ≡ holding_after (PostBug report) before)
IsNextOf (Always (PostBranch words)) before now next = (now ≡ before) × (next ≡ holding_after (PostBranch words) before)
IsNextOf (Always (PostControl c)) before now next =
    (k : ℕ) × (now ≡ holding_at c before k) × (next ≡ holding_at c before (k + 1))
IsNextOf (Always (GetBug n)) before now next = ⊥
IsNextOf (Always (GetList name version)) before now next = ⊥
IsNextOf (Once id c) before now next =
    (k : ℕ) × (now ≡ holding_once_at id c before k) × (next ≡ holding_once_at id c before (k + 1))

-- What was tried as a request was answered: what is held now, or, only where a fault was met, what
-- would be held after one step more.
abbrev pub IsTried : Asked → Option StoreFault → Holding → Holding → Holding → Type 0
IsTried asked None before now tried = tried ≡ now
IsTried asked (Some fault) before now tried = (tried ≡ now) ⊎ IsNextOf asked before now tried

-- Where a crash as a request came left what the store held and no other, a crash once it is
-- answered leaves what is held now, or what was tried, and no other.
pub record LeavesAnswered {S : Type 0} (leaves : S → Holding → Holding → Type 0) (old new : S) (asked : Asked) (before : Holding)
    (fault : Option StoreFault) (now : Holding) : Type 0 where
  pub tried : Holding
  pub is_tried : IsTried asked fault before now tried
  pub left : leaves old before before → leaves new now tried
