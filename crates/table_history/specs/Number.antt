-- What is asked of a database to recognise a desk in it: the number of its schema.
use Rattle.std.specs.Prelude.{◌≡◌, ◌≢◌, ◌<◌, ◌⊎◌, ℕ, List, [], ◌∷◌, codes, None, Result, Ok, Err, IfOk, IfErr}
use Rattle.sqlite.specs.Command.TheVariants.{Select}
use Rattle.sqlite.specs.Compile.{compiled}
use Rattle.sqlite.specs.Effect.{Database, Answers, RefusesQuery}
use Rattle.sqlite.specs.Order.{Row}
use Rattle.sqlite.specs.Schema.{Schema}
use Rattle.sqlite.specs.State.{State, HasCleanDisk, KeepsCommit, Survives, IsUnchanged}
use Rattle.sqlite.specs.declared.error.Error.{Error}
use Rattle.sqlite_resolve.specs.declared.compiled.Compiled.{Compiled}
use Rattle.sqlite_resolve.specs.declared.error.CompileError.{CompileError}
use Rattle.sqlite_schema.specs.declared.program.Program.{Program}
use Rattle.base_faults.specs.declared.store_fault.StoreFault.{StoreFault}
use Rattle.base_faults.specs.declared.store_fault.StoreFault.TheVariants.{Foreign}
use Rattle.table_forms.specs.Faults.{IsFaultOf}
use Rattle.table_forms.specs.Numbers.{number_row}
use Rattle.table_content.specs.Content.{Content}
use Rattle.table_history.specs.Making.{IsUnder}
use Rattle.table_history.specs.declared.number.SchemaRead.{SchemaRead}
use Rattle.table_history.specs.declared.number.SchemaRead.TheVariants.{Number, NoNumber}

-- the text that asks for the number
abbrev pub number_text : List ℕ
number_text = codes "SELECT schema FROM meta WHERE id = 1"

-- under the schema the text is this query
pub record Asks (schema : Schema) (query : Program) : Type 0 where
  pub found : Compiled
  pub is : compiled schema number_text ≡ Ok found
  pub names : List (List ℕ)
  pub selects : found.command ≡ Select query names

-- These rows are an answer to it over the database.
-- It is the only one, but for the order of its rows, unless a view leaves a choice.
abbrev pub IsAnswer : Database → List Row → Type 0
IsAnswer db rows = (query : Program) × Asks db.schema query × Answers db query [] rows

-- the text is refused under the schema, or over what the database holds
abbrev pub IsRefused : Database → Type 0
IsRefused db =
    ((fault : CompileError) × (compiled db.schema number_text ≡ Err fault)) ⊎ ((query : Program) × Asks db.schema query × (e : Error) × RefusesQuery None db query [] e)

-- these rows are the one row of a number from 1 on
abbrev pub AreNumber : ℕ → List Row → Type 0
AreNumber n rows = (0 < n) × (rows ≡ number_row n ∷ [])

-- the database says that its schema has this number, from 1 on
abbrev pub SaysSchema : Database → ℕ → Type 0
SaysSchema db n = (rows : List Row) × IsAnswer db rows × AreNumber n rows

-- the database refuses to say it, or answers something else
abbrev pub SaysNone : Database → Type 0
SaysNone db = IsRefused db ⊎ ((rows : List Row) × IsAnswer db rows × ((n : ℕ) → ¬ AreNumber n rows))

abbrev pub Says : Database → SchemaRead → Type 0
Says db (Number n) = SaysSchema db n
Says db NoNumber = SaysNone db

-- The schema's number is asked for: nothing is changed, and an answer is what the database says.
-- A fault has its cause, and is never Foreign, whatever the disk is.
pub record ReadsSchema (old new : State) (result : Result SchemaRead StoreFault) : Type 0 where
  pub survives : Survives old new (λ _. ⊥)
  pub keeps : HasCleanDisk new → KeepsCommit old new
  pub ok : HasCleanDisk new → old.step_limit ≡ None → IfOk result (λ read. IsUnchanged old new × Says old.now read)
  pub sure : IfErr result (λ fault. fault ≢ Foreign)
  pub cause : HasCleanDisk new → IfErr result (IsFaultOf old new)
  -- where the schema has no view the database says nothing else
  pub only : HasCleanDisk new → old.step_limit ≡ None → old.now.schema.views ≡ [] → IfOk result (λ read. (other : SchemaRead) → Says old.now other → other ≡ read)
  -- the tables of a desk say the number of their schema
  pub under : (k : ℕ) (c : Content) → HasCleanDisk new → IsUnder k c old → IfOk result (λ read. read ≡ Number k)
