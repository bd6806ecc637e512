-- How a transaction over a connection ends, and what one comes to, whole, that makes, recognises or
-- carries over a desk.
use Rattle.std.specs.Prelude.{◌≡◌, ◌≢◌, ◌⊎◌, ◌↔◌, ◌<◌, ◌≤◌, ⊤, ℕ, false, true, IsOk, Err, IfOk, IfErr, Result, IsTrue}
use Rattle.sqlite.specs.State.{State, HasCleanDisk, Survives, IsRolledBack, HasCause, store_error}
use Rattle.sqlite_trees.specs.View.{Tells}
use Rattle.sqlite_trees.specs.declared.error.StoreError.{StoreError}
use Rattle.table_forms.specs.Faults.{IsFaultOf, fault_of}
use Rattle.base_faults.specs.declared.store_fault.StoreFault.{StoreFault}
use Rattle.base_faults.specs.declared.store_fault.StoreFault.TheVariants.{Foreign}
use Rattle.table_content.specs.Content.{Content, no_content}
use Rattle.table_schema.specs.Steps.{seen}
use Rattle.table_history.specs.Names.{no_tables, has_desk_table}
use Rattle.table_history.specs.Number.{Says, SaysSchema}
use Rattle.table_history.specs.declared.history.TheConstants.{NEWEST}
use Rattle.table_history.specs.declared.number.SchemaRead.{SchemaRead}
use Rattle.table_history.specs.declared.number.SchemaRead.TheVariants.{Number}
use Rattle.table_opening.specs.Opening.{IsLeft, IsFailureOf, IsReason, SaysEarlier, SaysDesk}
use Rattle.table_opening.specs.Shown.{IsDesk, HasContent, HasContentUnder, HoldsContent, AreTablesOf}
use Rattle.table_opening.specs.Still.{StillShows}
use Rattle.table_opening.specs.declared.open_fault.OpenFault.{OpenFault}
use Rattle.table_opening.specs.declared.open_fault.OpenFault.TheVariants.{Store, NotEmpty}

-- A fault of a commit has a cause: there was no memory, the connection was shut before, or the disk
-- has failed or refused since, and then it is told as the store names its last error.
abbrev pub IsCommitFault : State → State → StoreFault → Type 0
IsCommitFault mid new fault =
    (cause : StoreError) × (fault ≡ fault_of (store_error cause)) × HasCause mid new ⊥ cause × Tells new.blamed cause

-- How a transaction ends: with a commit where its steps were done, and else undone.
-- Where the steps failed their fault is told, the first, also where undoing them fails too.
pub record Ends (mid new : State) (done result : Result (Unit {0}) StoreFault) : Type 0 where
  pub survives : Survives mid new (λ db. IsOk done × (db ≡ mid.now.trees))
  pub ok : HasCleanDisk new → IfOk result (λ _. IsOk done × IsTrue mid.is_open × IsTrue new.is_open × (new.now ≡ mid.now) × (new.committed ≡ mid.now))
  pub err : HasCleanDisk new → (IsOk done → IsTrue mid.in_transaction) → IfErr result (λ fault. IsRolledBack mid new × (IsFaultOf mid new fault ⊎ (done ≡ Err fault)))
  pub first : (fault : StoreFault) → done ≡ Err fault → result ≡ Err fault
  pub cause : HasCleanDisk new → IsOk done → IsTrue mid.in_transaction → IfErr result (IsCommitFault mid new)

-- A transaction that leads to the tables of a desk: where it began so, what was done is undone
-- unless it is committed; and where that fitted, the tables are a desk's with this content, and
-- committed, or there is a fault.
-- A crash at any moment leaves what it would have left before, or those tables.
pub record IsDone (Begun Fits : Type 0) (after : Content) (old new : State) (result : Result (Unit {0}) StoreFault) : Type 0 where
  pub honest : HasCleanDisk new → HasCleanDisk old
  pub ok : HasCleanDisk new → Begun → Fits → IfOk result (λ _. IsTrue new.is_open × IsDesk new × (seen new ≡ after))
  pub err : Begun → IfErr result (λ _. IsLeft old new)
  pub cause : HasCleanDisk new → Begun → Fits → IfErr result (IsFaultOf old new)
  pub crash : (HasCleanDisk new → Begun × Fits) → Survives old new (AreTablesOf after)

-- the tables of a new desk are made in a database with none
abbrev pub IsMade : ℕ → State → State → Result (Unit {0}) StoreFault → Type 0
IsMade first = IsDone ⊤ ⊤ (no_content first)

-- the tables of a desk under schema k are carried over to the newest
abbrev pub IsCarried : ℕ → State → State → Result (Unit {0}) StoreFault → Type 0
IsCarried k old new result = (c : Content) → IsDone ⊤ (HasContentUnder k c old) c old new result

-- A desk is created, or there is a reason.
pub record IsCreated (first : ℕ) (old new : State) (result : Result (Unit {0}) OpenFault) : Type 0 where
  pub ok : HasCleanDisk new → IfOk result (λ _. IsTrue new.is_open × IsDesk new × (seen new ≡ no_content first))
  pub err : IfErr result (λ _. IsLeft old new)
  pub not_empty : (result ≡ Err NotEmpty) ↔ (has_desk_table old.now.schema ≡ true)
  pub foreign : has_desk_table old.now.schema ≡ false → old.now.schema ≢ no_tables → result ≡ Err (Store Foreign)
  pub cause : HasCleanDisk new → old.now.schema ≡ no_tables → IfErr result (IsFailureOf old new)
  pub crash : Survives old new (AreTablesOf (no_content first))
  -- where there are tables, a crash leaves what it could have left before
  pub spared : old.now.schema ≢ no_tables → Survives old new (λ _. ⊥)

-- The number of the schema is asked for: whatever is answered, the tables are left as they were.
pub record AsksSchema (old new : State) (result : Result SchemaRead StoreFault) : Type 0 where
  pub survives : Survives old new (λ _. ⊥)
  pub left : IsLeft old new
  pub ok : HasCleanDisk new → IfOk result (λ read. IsTrue old.is_open × Says old.now read)
  pub sure : IfErr result (λ fault. fault ≢ Foreign)
  pub cause : HasCleanDisk new → IfErr result (IsFaultOf old new)
  pub under : (k : ℕ) (c : Content) → HasCleanDisk new → HasContentUnder k c old → IfOk result (λ read. read ≡ Number k)

-- A desk is recognised, under the schema of this number, or there is a reason.
pub record IsRecognised (old new : State) (result : Result ℕ OpenFault) : Type 0 where
  pub survives : Survives old new (λ _. ⊥)
  pub left : IsLeft old new
  pub ok : HasCleanDisk new → IfOk result (λ n. IsTrue old.is_open × SaysSchema old.now n)
  pub known : IfOk result (λ n. n ≤ NEWEST)
  pub under : (k : ℕ) (c : Content) → HasCleanDisk new → HasContentUnder k c old → IfOk result (λ n. n ≡ k)
  pub why : IfErr result (IsReason old new)
  pub desk : (c : Content) → HasCleanDisk new → HoldsContent c old → IfErr result (IsFailureOf old new)

-- A desk is found, and carried over where it is under an earlier schema, or there is a reason; what
-- is remembered of it has its content.
-- A crash at any moment leaves what it would have left before, or, of a desk under an earlier
-- schema, the same desk under the newest.
pub record IsFound {A : Type 0} (shown : A → State) (old new : State) (result : Result A OpenFault) : Type 0 where
  pub honest : IfOk result (λ a. HasCleanDisk new → HasCleanDisk old)
  pub holds : IfOk result (λ a. (c : Content) → HasCleanDisk new → HoldsContent c old → (seen (shown a) ≡ c) × HasContent c (shown a))
  pub still : IfOk result (λ a. StillShows (shown a) new)
  pub says : IfOk result (λ a. HasCleanDisk new → IsTrue old.is_open × SaysDesk old.now)
  pub serves : IfOk result (λ a. (k : ℕ) (c : Content) → HasCleanDisk new → k < NEWEST → HasContentUnder k c old → IsTrue new.is_open)
  pub stays : IfOk result (λ a. (c : Content) → HasCleanDisk new → HasContent c old → IsLeft old new)
  pub why : IfErr result (IsReason old new)
  pub desk : (c : Content) → HasCleanDisk new → HoldsContent c old → IfErr result (IsFailureOf old new)
  pub err : IfErr result (λ _. IsLeft old new)
  pub other : (HasCleanDisk new → ¬ (SaysEarlier old.now)) → IsLeft old new × Survives old new (λ _. ⊥)
  pub crash : (k : ℕ) (c : Content) → (HasCleanDisk new → HasContentUnder k c old) → Survives old new (λ db. (k < NEWEST) × AreTablesOf c db)
