-- What is planned for a command on the images of sets, and what that says of a desk.
use Rattle.std.specs.Prelude.{ℕ, ◌≡◌, List, [], ◌∷◌, Option, Some, None, Result, Ok, Err, ⊤}
use Rattle.version_nodes.specs.Nodes.{Node}
use Rattle.bug_record.specs.Heads.{open_head}
use Rattle.bug_record.specs.Desk.{Desk, IsSound}
use Rattle.bug_record.specs.Steps.{step_of_numbers}
use Rattle.bug_record.specs.Images.{bug_in, put, AreSetsOf}
use Rattle.bug_record.specs.declared.bug.Bug.{Bug}
use Rattle.bug_record.specs.declared.bug.SetImage.{SetImage}
use Rattle.bug_record.specs.declared.command.Change.{Change}
use Rattle.bug_record.specs.declared.command.Command.{Command}
use Rattle.bug_record.specs.declared.command.Command.TheVariants as commands
use Rattle.bug_record.specs.declared.command.Refusal.{Refusal}
use Rattle.bug_record.specs.declared.command.PlanFault.{PlanFault}
use Rattle.bug_record.specs.declared.command.PlanFault.TheVariants.{Refused, Memory}

-- of each of these numbers the images say what the desk has: its bug, or that it has none
abbrev pub AllKnown : Desk → List SetImage → List ℕ → Type 0
AllKnown d is [] = ⊤
AllKnown d is (n ∷ ns) = (bug_in is n ≡ d.bug n) × AllKnown d is ns

-- A sound desk that is as the images say: they are sets of it, its next number is this, and of
-- these bugs it has those that are in an image.
pub record IsShownBy (d : Desk) (is : List SetImage) (next : ℕ) (ns : List ℕ) : Type 0 where
  pub sound : IsSound d
  pub next_is : d.next ≡ next
  pub sets : AreSetsOf d is
  pub known : AllKnown d is ns

-- where a command is to archive a bug of the desk, this is its open head, or it has none; of other
-- commands nothing is asked
abbrev pub IsOpenHeadFor : Desk → Command ℕ → Option Node → Type 0
IsOpenHeadFor d (commands.Archive n) head = (b : Bug) → d.bug n ≡ Some b → head ≡ open_head d.tree b.shared
IsOpenHeadFor d command head = ⊤

-- What is answered is what a step comes to, whose result is `after`: the same refusal, or a change
-- that leaves the step's desk, which is sound.
-- Out of memory, nothing is said.
abbrev pub IsPlanOf : Desk → Result Desk Refusal → Result Change PlanFault → Type 0
IsPlanOf d after (Ok change) = (after ≡ Ok (put d change)) × IsSound (put d change)
IsPlanOf d after (Err (Refused refusal)) = after ≡ Err refusal
IsPlanOf d after (Err Memory) = ⊤

abbrev pub IsPlanFor : Desk → List ℕ → Command ℕ → Result Change PlanFault → Type 0
IsPlanFor d sender command result = IsPlanOf d (step_of_numbers d sender command) result

-- each bug that is in the old images is in the new ones
abbrev pub CoverImages : List SetImage → List SetImage → Type 0
CoverImages old new = (n : ℕ) → bug_in new n ≡ None → bug_in old n ≡ None

-- the new images bring in no bug of the desk that the old ones don't have
abbrev pub BringNone : Desk → List SetImage → List SetImage → Type 0
BringNone d old new = (n : ℕ) (b : Bug) → bug_in old n ≡ None → bug_in new n ≡ Some b → d.bug n ≡ None
