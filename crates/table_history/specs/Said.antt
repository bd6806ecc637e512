-- What the rows of an answer say, and how they are asked for.
use Rattle.std.specs.Prelude.{◌≡◌, ◌≢◌, ℕ, List, Option, Some, None, Result, Ok, Err, IfOk, IfErr}
use Rattle.sqlite.specs.Order.{Row}
use Rattle.sqlite.specs.State.{State, HasCleanDisk, KeepsCommit, Survives, IsUnchanged}
use Rattle.base_faults.specs.declared.store_fault.StoreFault.{StoreFault}
use Rattle.base_faults.specs.declared.store_fault.StoreFault.TheVariants.{Memory, Device, Full, Foreign}
use Rattle.table_forms.specs.Faults.{IsFaultOf}
use Rattle.table_history.specs.Number.{IsAnswer, IsRefused, AreNumber}
use Rattle.table_history.specs.declared.number.SchemaRead.{SchemaRead}
use Rattle.table_history.specs.declared.number.SchemaRead.TheVariants.{Number, NoNumber}

-- what rows say
abbrev pub IsSaid : List Row → SchemaRead → Type 0
IsSaid rows (Number n) = AreNumber n rows
IsSaid rows NoNumber = (n : ℕ) → ¬ AreNumber n rows

-- a foreign fault is told as no answer
abbrev pub unless_foreign : {A : Type 0} → Result A StoreFault → Result (Option A) StoreFault
unless_foreign (Ok a) = Ok (Some a)
unless_foreign (Err Foreign) = Ok None
unless_foreign (Err Memory) = Err Memory
unless_foreign (Err Device) = Err Device
unless_foreign (Err Full) = Err Full

-- the rows are asked for
pub record ReadsRows {A : Type 0} (items : A → List Row) (old new : State) (result : Result (Option A) StoreFault) : Type 0 where
  pub survives : Survives old new (λ _. ⊥)
  pub keeps : HasCleanDisk new → KeepsCommit old new
  pub some : HasCleanDisk new → IfOk result (λ o. (rows : A) → o ≡ Some rows → IsUnchanged old new × IsAnswer old.now (items rows))
  pub none : HasCleanDisk new → old.step_limit ≡ None → IfOk result (λ o. o ≡ None → IsUnchanged old new × IsRefused old.now)
  pub sure : IfErr result (λ fault. fault ≢ Foreign)
  pub cause : HasCleanDisk new → IfErr result (IsFaultOf old new)
