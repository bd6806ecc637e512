-- How a database is made a desk, or recognised as one.
use Rattle.std.specs.Prelude.{◌≡◌, ◌≢◌, ◌<◌, ◌≤◌, ℕ, false, None, IsTrue}
use Rattle.sqlite.specs.Effect.{Database}
use Rattle.sqlite.specs.State.{State, HasCleanDisk}
use Rattle.base_faults.specs.declared.store_fault.StoreFault.{StoreFault}
use Rattle.base_faults.specs.declared.store_fault.StoreFault.TheVariants.{Foreign}
use Rattle.table_forms.specs.Faults.{IsFaultOf}
use Rattle.table_content.specs.Content.{Content}
use Rattle.table_history.specs.Number.{SaysSchema, SaysNone}
use Rattle.table_history.specs.declared.history.TheConstants.{NEWEST}
use Rattle.table_opening.specs.Shown.{HasContent}
use Rattle.table_opening.specs.declared.open_fault.OpenFault.{OpenFault}
use Rattle.table_opening.specs.declared.open_fault.OpenFault.TheVariants.{NotADesk, NewerSchema, Store, NotEmpty}

-- the same connection, with no limit of steps for its statements
abbrev pub unlimited : State → State
unlimited s = record s { step_limit = None }

-- The connection is outside a transaction, and the tables are left as they were.
-- Where it serves it served before, and it shows what it showed.
pub record IsLeft (old new : State) : Type 0 where
  pub honest : HasCleanDisk new → HasCleanDisk old
  pub idle : new.in_transaction ≡ false
  pub was_open : HasCleanDisk new → IsTrue new.is_open → IsTrue old.is_open
  pub committed : HasCleanDisk new → IsTrue new.is_open → new.committed ≡ old.committed
  -- outside a transaction a connection that serves shows what was committed
  pub now : HasCleanDisk new → IsTrue new.is_open → old.now ≡ old.committed → new.now ≡ old.now
  pub content : (c : Content) → HasContent c old → HasContent c new

-- the store failed, for memory, the disk or its size
abbrev pub IsStoreFailure : OpenFault → Type 0
IsStoreFailure why = (fault : StoreFault) × (why ≡ Store fault) × (fault ≢ Foreign)

-- a fault of the store is told, which has its cause
abbrev pub IsFailureOf : State → State → OpenFault → Type 0
IsFailureOf old new why = (fault : StoreFault) × (why ≡ Store fault) × IsFaultOf old new fault

-- the database says the number of a schema before the newest
abbrev pub SaysEarlier : Database → Type 0
SaysEarlier db = (k : ℕ) × (k < NEWEST) × SaysSchema db k

-- the database says the number of a schema of a desk
abbrev pub SaysDesk : Database → Type 0
SaysDesk db = (k : ℕ) × (k ≤ NEWEST) × SaysSchema db k

-- what is so where the connection that was old and is new is refused to be a desk's for this
abbrev pub IsReason : State → State → OpenFault → Type 0
IsReason old new NotADesk = HasCleanDisk new → SaysNone old.now
IsReason old new (NewerSchema n) = HasCleanDisk new → SaysSchema old.now n × (NEWEST < n)
-- tables that say an earlier number and are no desk's may refuse to be carried over
IsReason old new (Store fault) = HasCleanDisk new → fault ≡ Foreign → SaysEarlier old.now
IsReason old new NotEmpty = ⊥
