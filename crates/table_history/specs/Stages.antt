-- What the texts that make tables do, one after another.
use Rattle.std.specs.Prelude.{◌≡◌, ◌⊎◌, ℕ, List, [], ◌∷◌, IsTrue, None, Result, Ok, Err}
use Rattle.sqlite.specs.Effect.{IsDatabase}
use Rattle.sqlite.specs.Held.{Held, state}
use Rattle.sqlite.specs.Schema.{Schema}
use Rattle.sqlite.specs.Store.{Ghosts}
use Rattle.sqlite.specs.State.{State, HasCleanDisk, Survives, ExecutesInside}
use Rattle.sqlite.specs.Tree.{Trees}
use Rattle.sqlite.specs.declared.error.Error.{Error}
use Rattle.sqlite_catalog.specs.Change.{KeepsRows}
use Rattle.sqlite_trees.specs.Tree.{with_tree}
use Rattle.base_faults.specs.declared.store_fault.StoreFault.{StoreFault}
use Rattle.table_forms.specs.Faults.{written}
use Rattle.table_content.specs.Content.{Content}
use Rattle.table_schema.specs.Rows.{meta_cells, content_of, AreShown}
use Rattle.table_schema.specs.Tables.{META}
use Rattle.table_history.specs.Making.{numbered_cells}

-- what one text, with no parameter, does in a transaction
pub record HasRun (sql : List ℕ) (old new : State) (result : Result (Unit {0}) StoreFault) : Type 0 where
  pub survives : Survives old new (λ _. ⊥)
  pub answer : Result ℕ Error
  pub told : result ≡ written answer
  pub runs : HasCleanDisk new → IsTrue old.in_transaction → ExecutesInside 0 sql [] old new answer

-- each of a list was done, one after another, up to the first that failed
abbrev pub InTurn : {X M : Type 0} → (X → M → M → Result (Unit {0}) StoreFault → Type 0) → List X → M → M → Result (Unit {0}) StoreFault → Type 0
InTurn Did [] old new result = (new ≡ old) × (result ≡ Ok tt)
InTurn {M = M} Did (x ∷ xs) old new result =
    ((fault : StoreFault) × (result ≡ Err fault) × Did x old new (Err fault)) ⊎ ((mid : M) × Did x old mid (Ok tt) × InTurn Did xs mid new result)

module _ {S : Type 0} (g : Ghosts S) where
  abbrev pub RunsText : List ℕ → Held S → Held S → Result (Unit {0}) StoreFault → Type 0
  RunsText sql old new result = HasRun sql (state g old) (state g new) result

  abbrev pub RunsStep : List (List ℕ) → Held S → Held S → Result (Unit {0}) StoreFault → Type 0
  RunsStep step old new result = InTurn RunsText step old new result

  abbrev pub RunsSteps : List (List (List ℕ)) → Held S → Held S → Result (Unit {0}) StoreFault → Type 0
  RunsSteps steps old new result = InTurn RunsStep steps old new result

-- a transaction over this schema, of which each table has these rows, and this is so, if the store
-- still serves
pub record IsBuilt (Fact : Type 0) (rows : Trees) (schema : Schema) (s : State) : Type 0 where
  pub begun : IsTrue s.in_transaction
  pub unlimited : s.step_limit ≡ None
  pub schema_is : IsTrue s.is_open → s.now.schema ≡ schema
  pub sound : IsTrue s.is_open → IsDatabase s.now
  pub rows_are : IsTrue s.is_open → KeepsRows schema.tables rows s.now.trees
  pub fact : IsTrue s.is_open → Fact

-- the row of meta has this number, and with the newest these trees say this
pub record AreNumbered (k : ℕ) (c : Content) (db : Trees) : Type 0 where
  pub meta : db META ≡ numbered_cells k c.next ∷ []
  pub shown : AreShown (with_tree db META (meta_cells c.next ∷ []))
  pub says : content_of (with_tree db META (meta_cells c.next ∷ [])) ≡ c
