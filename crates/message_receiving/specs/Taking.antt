-- What the functions that take the lines of a message answer.
use Rattle.std.specs.Prelude.{ℕ, ◌≡◌, List, [], ◌∷◌, ◌++◌, Bool, true, false, Option, Some, None, Result, Ok, Err}
use Rattle.bug_record.specs.Desk.{Desk}
use Rattle.bug_record.specs.Images.{HasMember}
use Rattle.bug_record.specs.Sets.{Each}
use Rattle.base_words.specs.Texts.{IfGiven}
use Rattle.bug_record.specs.Words.{Names}
use Rattle.bug_record.specs.declared.command.Change.{Change}
use Rattle.control_grammar.specs.Lines.{reading}
use Rattle.bug_record.specs.declared.outcome.Outcome.{Outcome}
use Rattle.base_faults.specs.declared.store_fault.StoreFault.{StoreFault}
use Rattle.base_faults.specs.declared.store_fault.End.{End}
use Rattle.base_faults.specs.declared.store_fault.End.TheVariants as ends
use Rattle.store_contract.specs.Store.{with_change}
use Rattle.store_contract.specs.Kept.{IsGoodOutcome}
use Rattle.store_contract.specs.Message.{Entry, machine, takes, end_of, unreadable_count, known_names}
use Rattle.store_contract.specs.Progress.{HaveNumbers, IsInStep, IsReady}
use Rattle.message_plans.specs.Changes.{Fits}
use Rattle.message_receiving.specs.declared.command_decision.Decision.{Decision}

-- after a line was decided, which may have no outcome
abbrev pub IsReadyFor : List Entry → ℕ → Names → List ℕ → Option (List ℕ × Decision) → Type 0
IsReadyFor outcomes unreadable known line None = IsInStep outcomes unreadable known
IsReadyFor outcomes unreadable known line (Some decided) =
    (decided.0 ≡ line) × IsReady outcomes unreadable known (decided.0, decided.1.outcome)

-- an outcome that makes no change
abbrev pub plainly : List ℕ → Outcome → List ℕ × Decision
plainly line outcome = (line, record { outcome = outcome; change = None })

-- the change of a decision, if there is one, may be made on the desk
abbrev pub FitsDecided : Desk → Option (List ℕ × Decision) → Type 0
FitsDecided d decided = IfGiven (λ p. Fits d p.1.change) decided

-- each image of the change has a member, if there is a change
abbrev pub HasMembers : Option Change → Type 0
HasMembers change = IfGiven (λ c. Each HasMember c.images) change

-- a line's decision: what the machine does
pub record IsDecision (sender : List ℕ) (d : Desk) (outcomes : List Entry) (line : List ℕ) (decision : Decision) : Type 0 where
  pub takes_line : takes sender (machine d outcomes) line (reading line)
      ≡ machine (with_change decision.change d) (outcomes ++ (line, decision.outcome) ∷ [])
  pub good : IsGoodOutcome decision.outcome

-- one line decided: a decision, or none where the machine does nothing
abbrev pub DecidesLine : List ℕ → Desk → List Entry → List ℕ → Option (List ℕ × Decision) → Type 0
DecidesLine sender d outcomes line None = takes sender (machine d outcomes) line (reading line) ≡ machine d outcomes
DecidesLine sender d outcomes line (Some decided) = IsDecision sender d outcomes line decided.1

-- one line taken: what the machine does, with names that have numbers; or a fault and no change
abbrev pub TakesLine : List ℕ → Desk → List Entry → Desk → List Entry → Names → Result End StoreFault → List ℕ → Type 0
TakesLine sender d outcomes d' outcomes' known (Ok end) line =
    (takes sender (machine d outcomes) line (reading line) ≡ machine d' outcomes') × HaveNumbers known
TakesLine sender d outcomes d' outcomes' known (Err fault) line = d' ≡ d

-- a change is carried out, if there is one; or there is a fault and no change
abbrev pub CarriesOut : {T : Type 0} → Desk → Desk → Result T StoreFault → Option Change → Type 0
CarriesOut old new (Ok done) change = new ≡ with_change change old
CarriesOut old new (Err fault) change = new ≡ old
