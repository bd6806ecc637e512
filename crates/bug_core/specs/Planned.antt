-- What is promised of the plan of each command.
use Rattle.std.specs.Prelude.{ℕ, ◌≡◌, ◌≤◌, false, List, Option, None, Result, Ok, IfOk, IfErr}
use Rattle.bug_record.specs.Sets.{Each}
use Rattle.bug_record.specs.Desk.{Desk, IsSound}
use Rattle.bug_record.specs.Bugs.{unless}
use Rattle.bug_record.specs.Commands.{bugs_named}
use Rattle.version_nodes.specs.Nodes.{Node}
use Rattle.bug_record.specs.Words.{first_bug_refusal, words_refusal}
use Rattle.bug_record.specs.Steps.{step_by, records_changed}
use Rattle.bug_record.specs.declared.command.Command.{Command}
use Rattle.bug_record.specs.Images.{AreApart, HasMember, AreSetsOf, FitsDesk}
use Rattle.bug_record.specs.Plans.{AllKnown, IsShownBy, IsPlanOf, CoverImages, BringNone}
use Rattle.bug_record.specs.declared.bug.SetImage.{SetImage}
use Rattle.bug_record.specs.declared.command.Change.{Change}
use Rattle.bug_record.specs.declared.command.PlanFault.{PlanFault}
use Rattle.bug_record.specs.declared.command.Refusal.{Refusal}
use Rattle.bug_core.specs.Refused.{IsRefusedAs, IsFaultOfPlan, HasName}

-- What is planned for bugs whose step is this, a function of the desk.
pub record IsPlanned (named : List ℕ) (after : Desk → Result Desk Refusal) (images : List SetImage) (next : ℕ)
    (result : Result Change PlanFault) : Type 0 where
  -- of every sound desk that the images show
  pub right : (d : Desk) → IsShownBy d images next named → IsPlanOf d (after d) result
  pub fits : (d : Desk) → IsShownBy d images next named → IfOk result (λ change. FitsDesk d change)
  pub brings : (d : Desk) → IsShownBy d images next named → IfOk result (λ change. BringNone d images change.images)
  pub apart : (d : Desk) → IsSound d → d.next ≡ next → AreSetsOf d images → IfOk result (λ change. AreApart change.images)
  -- of any desk, sound or not, of which the images show these bugs, where the images' packages are
  -- package names
  pub refusals : (d : Desk) → d.next ≡ next → AllKnown d images named → Each HasName images → IsRefusedAs (after d) result
  -- whatever the images
  pub own : IfErr result IsFaultOfPlan
  pub members : IfOk result (λ change. Each HasMember change.images)
  pub covers : IfOk result (λ change. CoverImages images change.images)
  pub later : IfOk result (λ change. next ≤ change.next)

-- the step of a command over numbers, none of whose names is refused, and of whose bug this is the
-- open head
abbrev pub step_with : Option Node → List ℕ → Command ℕ → Desk → Result Desk Refusal
step_with head sender command d = step_by (λ n. Ok n) (λ ks. None) (λ _. head) d sender command

-- What is planned for a command that comes to this where all of these bugs are there, and none is
-- archived.
abbrev pub IsPlannedOf : List ℕ → (Desk → Result Desk Refusal) → List SetImage → ℕ → Result Change PlanFault → Type 0
IsPlannedOf named own images next result =
    IsPlanned named (λ d. unless (first_bug_refusal false d.bug named) (own d)) images next result

-- what is planned for a command that changes records, where this is the open head of its bug
abbrev pub IsRecordsPlan : Option Node → List ℕ → Command ℕ → List SetImage → ℕ → Result Change PlanFault → Type 0
IsRecordsPlan head sender command images next result = IsPlanned (bugs_named command)
    (λ d. unless (words_refusal (λ n. Ok n) d.bug command) (records_changed (λ _. head) sender command d)) images next result
