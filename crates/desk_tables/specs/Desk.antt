-- What is said of a desk in tables, in the words of a store.
use Rattle.std.specs.Prelude.{ℕ, List, Option, Result, IfErr}
use Rattle.sqlite.specs.Held.{Held, state}
use Rattle.sqlite.specs.State.{State, HasCleanDisk}
use Rattle.sqlite_trees.specs.declared.store.Store as store
use Rattle.bug_record.specs.Desk.{Desk}
use Rattle.bug_record.specs.declared.command.Change.{Change}
use Rattle.bug_record.specs.declared.outcome.Outcome.{Outcome}
use Rattle.base_faults.specs.declared.store_fault.StoreFault.{StoreFault}
use Rattle.table_forms.specs.Faults.{IsFaultOf}
use Rattle.table_content.specs.Content.{Content}
use Rattle.table_content.specs.View.{desk_in, keeping_in}
use Rattle.store_contract.specs.Crashes.{Holding}
use Rattle.store_contract.specs.Kept.{Keeping}
use Rattle.store_contract.specs.Store.{Asks, Answers, Faults, MayBeKept, Keeps}
use Rattle.table_reads.specs.Known.{known_set}
use Rattle.desk_tables.specs.Kept.{content_seen, IsKept, Remembered}
use Rattle.desk_tables.specs.Crashes.{LeavesOf}
use Rattle.desk_tables.specs.declared.desk.TableDesk.{TableDesk}

module _ {S : Type 0} {g : store.Ghosts S} where
  -- its connection, as it is now
  abbrev pub connection_of : TableDesk S g → Held S
  connection_of d = d.conn

  abbrev pub state_of : TableDesk S g → State
  state_of d = state g (connection_of d)

  -- what its connection showed as it was last made or found
  abbrev pub content_shown : TableDesk S g → Content
  content_shown d = content_seen g d.last.value

  abbrev pub desk_of : TableDesk S g → Desk
  desk_of d = desk_in (content_shown d)

  -- what is kept of messages
  abbrev pub keeping_of : TableDesk S g → Keeping
  keeping_of d = keeping_in (content_shown d)

  -- how often its store has failed
  abbrev pub faults_of : TableDesk S g → Faults
  faults_of d = d.counts

  -- so far the disk has returned what was written
  abbrev pub HasHonestDisk : TableDesk S g → Type 0
  HasHonestDisk d = HasCleanDisk (state_of d)

  -- what it remembers
  abbrev pub remembered : TableDesk S g → Remembered
  remembered d = record { sets = known_set d.known; place = d.place; next = d.next }

  -- its tables are kept
  abbrev pub HasKeptTables : TableDesk S g → Type 0
  HasKeptTables d = IsKept g d.last.value d.family (remembered d)

  -- a crash at this moment leaves tables that hold the first or the second
  abbrev pub LeavesTables : TableDesk S g → Holding → Holding → Type 0
  LeavesTables d a b = LeavesOf (state_of d) a b

  -- a question of the desk: nothing changes, and an answer is one of which P holds
  abbrev pub IsAnswered : {T : Type 0} → TableDesk S g → TableDesk S g → Result T StoreFault
      → (T → Type 0) → Type 0
  IsAnswered old new result P =
      Asks HasKeptTables HasHonestDisk LeavesTables old new (Answers (desk_of old) (desk_of new) result P)

  -- Over kept tables and an honest disk a call fails for memory, or its store has failed in this
  -- call, or was shut before; it never fails as Foreign.
  abbrev pub HasItsCause : {T : Type 0} → TableDesk S g → TableDesk S g → Result T StoreFault
      → Type 0
  HasItsCause old new result =
      HasKeptTables old → HasHonestDisk new
      → IfErr result (IsFaultOf (state_of old) (state_of new))

  -- the outcome may be kept of the message's id, with the change, over this desk
  abbrev pub MayKeep : TableDesk S g → (id sender message : List ℕ) → Outcome → Option Change
      → Type 0
  MayKeep d id sender message outcome change =
      MayBeKept id sender message (keeping_of d) (desk_of d) outcome change

  -- the outcome is kept of the message's id, with the change, or neither is
  abbrev pub KeepsOf : TableDesk S g → TableDesk S g → (id sender message : List ℕ) → Outcome
      → Option Change → Result (Unit {0}) StoreFault → Type 0
  KeepsOf old new id sender message outcome change result =
      Keeps id sender message outcome change (desk_of old) (keeping_of old) result (desk_of new)
      (keeping_of new)
