-- How the tables of a new desk are made, and how those of an earlier schema are carried over.
use Rattle.std.specs.Prelude.{◌≡◌, ◌<◌, ◌≤◌, ℕ, [], ◌∷◌, pos, drop, IsTrue, IfOk, IfErr, None, Result}
use Rattle.sqlite.specs.Effect.{IsDatabase}
use Rattle.sqlite.specs.Order.{Row}
use Rattle.sqlite.specs.State.{State, HasCleanDisk, KeepsCommit, Survives}
use Rattle.sqlite.specs.Tree.{Trees}
use Rattle.sqlite.specs.declared.types.Value.TheVariants.{Null, Int}
use Rattle.sqlite_trees.specs.Tree.{with_tree}
use Rattle.base_faults.specs.declared.store_fault.StoreFault.{StoreFault}
use Rattle.table_forms.specs.Faults.{IsFaultOf}
use Rattle.table_content.specs.Content.{Content}
use Rattle.table_schema.specs.Rows.{meta_cells, content_of, AreShown}
use Rattle.table_schema.specs.Steps.{IsInside, seen}
use Rattle.table_schema.specs.Tables.{META}
use Rattle.table_history.specs.History.{history, schema_at, without_steps}
use Rattle.table_history.specs.Names.{no_tables}
use Rattle.table_history.specs.declared.history.TheConstants.{NEWEST}

abbrev pub no_rows : Trees
no_rows tree = []

-- a transaction over a database with no table, no index and no view, if the store still serves
pub record IsBlank (s : State) : Type 0 where
  pub begun : IsTrue s.in_transaction
  pub unlimited : s.step_limit ≡ None
  pub schema : IsTrue s.is_open → s.now.schema ≡ no_tables
  pub sound : IsTrue s.is_open → IsDatabase s.now

-- a transaction over the tables of a desk that say this
pub record IsDeskOf (c : Content) (s : State) : Type 0 where
  pub inside : IsInside s
  pub says : seen s ≡ c

-- ---- under the schema of a number

-- the row of meta has that number
abbrev pub numbered_cells : ℕ → ℕ → Row
numbered_cells k next = Int (pos 1) ∷ Null ∷ Int (pos k) ∷ Int (pos next) ∷ []

-- the tables of a desk under schema k, carried over: the number is the newest, and the tables of
-- later steps have no row
abbrev pub carried : ℕ → ℕ → Trees → Trees
carried k next db = with_tree (without_steps (drop k history) db) META (meta_cells next ∷ [])

-- under schema k these trees are the tables of a desk, and say this
pub record AreUnder (k : ℕ) (c : Content) (db : Trees) : Type 0 where
  pub some : 0 < k
  pub known : k ≤ NEWEST
  pub meta : db META ≡ numbered_cells k c.next ∷ []
  pub shown : AreShown (carried k c.next db)
  pub says : content_of (carried k c.next db) ≡ c

-- a transaction over the tables of a desk under schema k, if the store still serves
pub record IsUnder (k : ℕ) (c : Content) (s : State) : Type 0 where
  pub begun : IsTrue s.in_transaction
  pub unlimited : s.step_limit ≡ None
  pub schema : IsTrue s.is_open → s.now.schema ≡ schema_at k
  pub sound : IsTrue s.is_open → IsDatabase s.now
  pub shown : IsTrue s.is_open → AreUnder k c s.now.trees

-- ---- what a call does

-- A call goes from old to new within a transaction: nothing is committed.
-- Where it is done the transaction goes on; and where Before held of old, the store served, and
-- serves, and After holds of new.
-- Where Before held a fault has its cause.
pub record Builds (Before After : State → Type 0) (old new : State) (result : Result (Unit {0}) StoreFault) : Type 0 where
  pub survives : Survives old new (λ _. ⊥)
  pub keeps : HasCleanDisk new → IsTrue old.in_transaction → KeepsCommit old new
  pub goes_on : HasCleanDisk new → IsTrue old.in_transaction → IfOk result (λ _. IsTrue new.in_transaction)
  pub ok : HasCleanDisk new → Before old → IfOk result (λ _. IsTrue old.is_open × IsTrue new.is_open × After new)
  pub cause : HasCleanDisk new → Before old → IfErr result (IsFaultOf old new)
