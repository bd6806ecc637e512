-- What calls say that change the tables of a desk.
-- Each speaks of a call from old to new, over kept tables and a disk that is honest up to its end.
use Rattle.std.specs.Prelude.{◌≡◌, ℕ, List, Option, Result, IfOk, OnOk, IsTrue}
use Rattle.sqlite.specs.State.{Survives}
use Rattle.sqlite_trees.specs.declared.store.Store as store
use Rattle.version_nodes.specs.declared.fault.BranchFault.{BranchFault}
use Rattle.version_nodes.specs.Nodes.{Node}
use Rattle.base_words.specs.Texts.{IfGiven}
use Rattle.bug_record.specs.declared.command.Change.{Change}
use Rattle.bug_record.specs.declared.outcome.Outcome.{Outcome}
use Rattle.base_faults.specs.declared.store_fault.StoreFault.{StoreFault}
use Rattle.table_content.specs.Changes.{FitsContent, changed}
use Rattle.table_content.specs.KeptOutcomes.{kept_after}
use Rattle.store_contract.specs.Store.{Holds, Applies, Branches}
use Rattle.desk_tables.specs.Desk.{state_of, content_shown, desk_of, keeping_of, HasHonestDisk, HasKeptTables, KeepsOf}
use Rattle.table_opening.specs.Shown.{AreTablesOf}
use Rattle.desk_tables.specs.Crashes.{AreTablesAfter}
use Rattle.desk_tables.specs.declared.desk.TableDesk.{TableDesk}

module _ {S : Type 0} {g : store.Ghosts S} where
  -- the change fits what the tables say
  abbrev pub FitsTables : TableDesk S g → Change → Type 0
  FitsTables d change = HasKeptTables d → HasHonestDisk d → FitsContent (content_shown d) change

  -- so does the change of a line, if there is one
  abbrev pub FitsTablesIfAny : TableDesk S g → Option Change → Type 0
  FitsTablesIfAny d change =
      HasKeptTables d → HasHonestDisk d → IfGiven (FitsContent (content_shown d)) change

  -- the change is carried out, or nothing changes
  abbrev pub MakesChange : TableDesk S g → TableDesk S g → Result (Unit {0}) StoreFault → Change
      → Type 0
  MakesChange old new result change =
      Holds HasKeptTables HasHonestDisk old new (Applies (desk_of old) (desk_of new) result change)

  -- the branch is taken, or nothing changes
  abbrev pub TakesBranch : TableDesk S g → TableDesk S g
      → Result (Result (Unit {0}) BranchFault) StoreFault → List Node → Type 0
  TakesBranch old new result nodes =
      Holds HasKeptTables HasHonestDisk old new (Branches (desk_of old) (desk_of new) result nodes)

  -- the outcome of a line is kept, with its change, or neither is
  abbrev pub KeepsLine : TableDesk S g → TableDesk S g → (id sender message : List ℕ) → Outcome
      → Option Change → Result (Unit {0}) StoreFault → Type 0
  KeepsLine old new id sender message outcome change result =
      Holds HasKeptTables HasHonestDisk old new
      (KeepsOf old new id sender message outcome change result)

  -- what is kept of messages stays
  abbrev pub LeavesMessages : TableDesk S g → TableDesk S g → Type 0
  LeavesMessages old new =
      HasKeptTables old → HasHonestDisk new → keeping_of new ≡ keeping_of old

  -- once it is done the connection serves
  abbrev pub ServesAfter : TableDesk S g → TableDesk S g → Result (Unit {0}) StoreFault → Type 0
  ServesAfter old new result =
      HasKeptTables old → HasHonestDisk new → OnOk result (IsTrue (state_of new).is_open)

  -- once the branch is taken the connection serves
  abbrev pub ServesAfterBranch : TableDesk S g → TableDesk S g
      → Result (Result (Unit {0}) BranchFault) StoreFault → Type 0
  ServesAfterBranch old new result =
      HasKeptTables old → HasHonestDisk new
      → IfOk result (λ taken. OnOk taken (IsTrue (state_of new).is_open))

  -- a crash leaves what it would have left before, or the tables after the change
  abbrev pub SurvivesChange : TableDesk S g → TableDesk S g → Change → Type 0
  SurvivesChange old new change =
      Survives (state_of old) (state_of new) (AreTablesOf (changed (content_shown old) change))

  -- a crash leaves what it would have left before, or the tables after the branch
  abbrev pub SurvivesBranch : TableDesk S g → TableDesk S g → List Node → Type 0
  SurvivesBranch old new nodes =
      Survives (state_of old) (state_of new) (AreTablesAfter (content_shown old) nodes)

  -- a crash leaves what it would have left before, or the tables with the outcome and its change
  abbrev pub SurvivesLine : TableDesk S g → TableDesk S g → (id sender message : List ℕ) → Outcome
      → Option Change → Type 0
  SurvivesLine old new id sender message outcome change =
      Survives (state_of old) (state_of new)
      (AreTablesOf (kept_after id sender message outcome change (content_shown old)))
