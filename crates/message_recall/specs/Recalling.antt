-- What is recalled of kept outcomes.
use Rattle.std.specs.Prelude.{ℕ, ◌≡◌, ◌≤◌, ◌-◌, List, [], length, take}
use Rattle.bug_record.specs.declared.outcome.Outcome.{Outcome}
use Rattle.base_faults.specs.declared.store_fault.End.TheVariants as ends
use Rattle.store_contract.specs.Message.{end_of}
use Rattle.store_contract.specs.Kept.{lines_told, told, GiveNames}

-- these outcomes can be those of the first lines: there are no more than lines that have one, none
-- stands after one that ends the message, and names are given once
pub record AreOfLines (lines : List (List ℕ)) (outcomes : List Outcome) : Type 0 where
  pub few : length outcomes ≤ length (lines_told lines)
  pub goes_on : end_of (told lines (take (length outcomes - 1) outcomes)) ≡ ends.All
  pub names : GiveNames [] (told lines outcomes)

-- the first lines, so many, have just these outcomes
pub record IsTaken (lines : List (List ℕ)) (outcomes : List Outcome) (taken : ℕ) : Type 0 where
  pub within : taken ≤ length lines
  pub all : length (lines_told (take taken lines)) ≡ length outcomes
