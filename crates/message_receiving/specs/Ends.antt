-- The end of a message.
-- This project's own rule.
use Rattle.std.specs.Prelude.{ℕ, ◌≡◌, ◌⊎◌, ◌<◌, ◌≤◌, ◌-◌, List, [], length, slice_index_or, IsTrue, ⊤}
use Rattle.base_faults.specs.declared.store_fault.End.{End}
use Rattle.base_faults.specs.declared.store_fault.End.TheVariants.{All, Stopped, TooManyUnreadable, Store}
use Rattle.base_faults.specs.declared.store_fault.StoreFault.TheVariants.{Memory}
use Rattle.store_contract.specs.Kept.{has_outcome}

-- where the store failed, it failed at one of the lines, which is not blank and no comment
abbrev pub IsLineOf : End → List (List ℕ) → Type 0
IsLineOf All lines = ⊤
IsLineOf Stopped lines = ⊤
IsLineOf TooManyUnreadable lines = ⊤
IsLineOf (Store fault k) lines = (0 < k) × (k ≤ length lines) × IsTrue (has_outcome (slice_index_or lines (k - 1) []))

-- the same of a message that is to be split into these lines: where there was no memory for that,
-- line 1 is told, whatever it is
abbrev pub IsLineOfSplit : End → List (List ℕ) → Type 0
IsLineOfSplit end lines = IsLineOf end lines ⊎ (end ≡ Store Memory 1)
