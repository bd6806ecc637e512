-- What a transaction comes to, whole, that asks or changes a desk.
use Rattle.std.specs.Prelude.{◌≡◌, List, IfOk, IfErr, Result, IsTrue}
use Rattle.sqlite.specs.State.{State, HasCleanDisk, KeepsCommit, Survives}
use Rattle.base_faults.specs.declared.store_fault.StoreFault.{StoreFault}
use Rattle.version_nodes.specs.Branches.{IsBranched}
use Rattle.version_nodes.specs.Nodes.{Node}
use Rattle.version_nodes.specs.Trees.{Ancestry}
use Rattle.version_nodes.specs.declared.fault.BranchFault.{BranchFault}
use Rattle.table_forms.specs.Faults.{IsFaultOf}
use Rattle.table_content.specs.Branches.{with_nodes}
use Rattle.table_content.specs.Content.{Content}
use Rattle.table_content.specs.Kept.{IsKeptContent}
use Rattle.table_schema.specs.Steps.{IsInside, seen}
use Rattle.store_contract.specs.Store.{IsRefusal}
use Rattle.table_opening.specs.Shown.{IsDesk, HasContent, AreTablesOf}
use Rattle.desk_tables.specs.Crashes.{AreTablesAfter}
use Rattle.table_opening.specs.Still.{IsAsBefore, StillShows}

-- A question inside a transaction: nothing is committed.
-- Where the tables of an open store say c, and c fits, an answer is right of c, and a fault has its
-- cause.
pub record AsksInside {A : Type 0} (old new : State) (result : Result A StoreFault) (Fits : Content → Type 0) (P : Content → A → Type 0) : Type 0 where
  pub survives : Survives old new (λ _. ⊥)
  pub keeps : HasCleanDisk new → IsInside old → KeepsCommit old new
  pub ok : (c : Content) → HasCleanDisk new → IsInside old → (IsTrue old.is_open → seen old ≡ c) → Fits c → IfOk result (P c)
  pub cause : (c : Content) → HasCleanDisk new → IsInside old → (IsTrue old.is_open → seen old ≡ c) → Fits c → IfErr result (IsFaultOf old new)

-- A question: whatever it answers, the connection shows the same desk as before.
-- An answer is right also where a fault has shut the connection since.
pub record IsAsked {A : Type 0} (old new : State) (result : Result A StoreFault) (Fits : Content → Type 0) (P : Content → A → Type 0) : Type 0 where
  pub survives : Survives old new (λ _. ⊥)
  pub stays : StillShows old new
  pub ok : (c : Content) → HasCleanDisk new → HasContent c old → Fits c → IfOk result (P c)
  pub cause : (c : Content) → HasCleanDisk new → HasContent c old → Fits c → IfErr result (IsFaultOf old new)

-- A change that fits: it is made and committed, or the connection shows the same desk as before.
-- A crash at any moment leaves what it would have left before, or the desk after the change.
pub record IsChanged (old new : State) (result : Result (Unit {0}) StoreFault) (Fits : Content → Type 0) (after : Content → Content) : Type 0 where
  pub honest : HasCleanDisk new → HasCleanDisk old
  pub ok : (c : Content) → HasCleanDisk new → HasContent c old → Fits c → IfOk result (λ _. IsTrue new.is_open × IsDesk new × (seen new ≡ after c))
  pub err : (c : Content) → HasContent c old → IfErr result (λ _. IsAsBefore old new)
  pub cause : (c : Content) → HasCleanDisk new → HasContent c old → Fits c → IfErr result (IsFaultOf old new)
  pub crash : (c : Content) → (HasCleanDisk new → HasContent c old × Fits c) → Survives old new (AreTablesOf (after c))

-- A branch over the ancestry t, which is u then: it is taken and committed, or refused, or there is
-- a fault, and then the connection shows the same desk as before.
-- A crash at any moment leaves what it would have left before, or the desk after the branch.
pub record IsTaken (t u : Ancestry) (nodes : List Node) (old new : State) (result : Result (Result (Unit {0}) BranchFault) StoreFault) : Type 0 where
  pub honest : HasCleanDisk new → HasCleanDisk old
  pub answer : IfOk result (λ a. IsBranched t nodes a u × IsRefusal a)
  pub ok : (c : Content) → HasCleanDisk new → HasContent c old → IsKeptContent c → c.nodes ≡ t
      → IfOk result (λ a. IfOk a (λ _. IsTrue new.is_open × IsDesk new × (seen new ≡ with_nodes u c)))
  pub refused : (c : Content) → HasContent c old → IfOk result (λ a. IfErr a (λ _. IsAsBefore old new))
  pub err : (c : Content) → HasContent c old → IfErr result (λ _. IsAsBefore old new)
  pub cause : (c : Content) → HasCleanDisk new → HasContent c old → IsKeptContent c → c.nodes ≡ t → IfErr result (IsFaultOf old new)
  pub crash : (c : Content) → (HasCleanDisk new → HasContent c old × IsKeptContent c × (c.nodes ≡ t)) → Survives old new (AreTablesAfter c nodes)
