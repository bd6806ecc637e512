-- What the functions that decide a command answer, step by step.
use Rattle.std.specs.Prelude.{ℕ, ◌≡◌, true, List, ◌∷◌}
use Rattle.bug_record.specs.Desk.{Desk}
use Rattle.bug_record.specs.Words.{Names}
use Rattle.bug_record.specs.Commands.{bug_named}
use Rattle.bug_record.specs.Sets.{has}
use Rattle.bug_record.specs.Images.{numbers_of, put}
use Rattle.bug_record.specs.Changed.{changed_numbers}
use Rattle.bug_record.specs.declared.bug.SetImage.{SetImage}
use Rattle.bug_record.specs.declared.command.Change.{Change}
use Rattle.bug_record.specs.declared.command.Command.{Command}
use Rattle.bug_fields.specs.Members.{leaves_members}
use Rattle.base_words.specs.declared.named.Named.{Named}
use Rattle.bug_record.specs.declared.outcome.Outcome.TheVariants.{Changed}
use Rattle.store_contract.specs.Store.{with_change}
use Rattle.store_contract.specs.Kept.{IsGoodOutcome}
use Rattle.store_contract.specs.Message.{outcome_of, does}
use Rattle.store_contract.specs.Telling.{result_meant, step_among}
use Rattle.message_plans.specs.Changes.{Fits}
use Rattle.message_receiving.specs.declared.command_decision.Decision.{Decision}

-- the first image is that of the bug that a command names, whose titles and submitters it leaves
abbrev pub LeavesFirst : Command ℕ → List SetImage → Type 0
LeavesFirst command is = (i : SetImage) × (others : List SetImage) × (is ≡ i ∷ others)
    × (leaves_members command i.shared ≡ true) × (has (numbers_of i.members) (bug_named command) ≡ true)

-- what is decided of a change: the numbers at which the desks differ, and what leaves the same desk
pub record Makes (d : Desk) (change : Change) (decision : Decision) : Type 0 where
  pub outcome : decision.outcome ≡ Changed (changed_numbers d (put d change))
  pub desk : with_change decision.change d ≡ put d change
  pub fits : Fits d decision.change

-- a command that was told where these names are known, decided: its step's outcome, and what leaves
-- its step's desk
pub record DecidesTold (sender : List ℕ) (names : Names) (d : Desk) (command : Command ℕ) (decision : Decision) : Type 0 where
  pub step : outcome_of d (result_meant (step_among names d sender command))
      ≡ (decision.outcome, with_change decision.change d)
  pub fits : Fits d decision.change

-- a command decided where these names are known: what the machine does
pub record Decides (sender : List ℕ) (names : Names) (d : Desk) (command : Command Named) (decision : Decision) : Type 0 where
  pub step : does sender names d command ≡ (decision.outcome, with_change decision.change d)
  pub good : IsGoodOutcome decision.outcome
