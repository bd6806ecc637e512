-- Where a message stands after some of its lines.
use Rattle.std.specs.Prelude.{ℕ, ◌≡◌, List, [], ◌∷◌, ◌++◌, Bool, true, false}
use Rattle.bug_record.specs.Sets.{Each}
use Rattle.bug_record.specs.Words.{Names}
use Rattle.base_words.specs.Numbers.{IsGoodNumber}
use Rattle.base_faults.specs.declared.store_fault.End.{End}
use Rattle.base_faults.specs.declared.store_fault.End.TheVariants as ends
use Rattle.store_contract.specs.Message.{Entry, end_of, unreadable_count, known_names}

-- the names stand for numbers from 1 to 999,999,999
abbrev pub HaveNumbers : Names → Type 0
HaveNumbers names = Each (λ p. IsGoodNumber p.1) names

-- a message goes on at `All`
abbrev pub goes_on : End → Bool
goes_on ends.All = true
goes_on ends.Stopped = false
goes_on ends.TooManyUnreadable = false
goes_on (ends.Store fault k) = false

-- The message goes on after these outcomes, so many of its lines could not be read, and these are
-- the names that it has given.
pub record IsInStep (outcomes : List Entry) (unreadable : ℕ) (known : Names) : Type 0 where
  pub counted : unreadable ≡ unreadable_count outcomes
  pub known_are : known ≡ known_names outcomes
  pub goes_on : end_of outcomes ≡ ends.All

-- The same before this line's outcome is added, where the names are known that the line gives.
pub record IsReady (outcomes : List Entry) (unreadable : ℕ) (known : Names) (entry : Entry) : Type 0 where
  pub counted : unreadable ≡ unreadable_count outcomes
  pub known_are : known ≡ known_names (outcomes ++ entry ∷ [])
  pub goes_on : end_of outcomes ≡ ends.All
