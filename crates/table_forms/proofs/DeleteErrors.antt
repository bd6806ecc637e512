-- Why a DELETE of the rows that pass tests fails.
use Rattle.std.proofs.Common.{◌≡◌, ◌⊎◌, inl, inr, ℕ, ℤ, List, [], ◌∷◌, true, Option, Some, None, option_map, Err, refl, sym, subst, ◌∙◌, true≢false}
use Rattle.sqlite_rules.proofs.ListLemmas.{any_has}
use Rattle.sqlite.specs.Order.{Row}
use Rattle.sqlite.specs.Term.{Term, col}
use Rattle.sqlite.specs.Table.{Table}
use Rattle.sqlite.specs.Schema.{Schema}
use Rattle.sqlite.specs.Tree.{Trees}
use Rattle.sqlite.specs.Program.{overlay}
use Rattle.sqlite.specs.Command.{Command}
use Rattle.sqlite.specs.Command.TheVariants.{Delete}
use Rattle.sqlite.specs.Edit.{edit_of, IsRefused, taken_by}
use Rattle.sqlite.specs.Rowids.TheVariants.{Given}
use Rattle.sqlite_rules.specs.Action.{works, Writes}
use Rattle.sqlite_rules.specs.Calls.{ids_of}
use Rattle.sqlite_rules.specs.declared.error.Refusal.{Refusal}
use Rattle.sqlite_schema.specs.declared.schema.Keys.TheVariants.{Enforced}
use Rattle.sqlite_schema.specs.declared.program.Program.{Program}
use Rattle.sqlite.specs.declared.error.Error.{Error}
use Rattle.sqlite.specs.Effect.{edit_error}
use Rattle.sqlite.specs.Does.{Does, AtPlace, OnRows}
use Rattle.sqlite.specs.Rows.{Task, Queried, Deletes}
use Rattle.sqlite_typing.specs.Types.{accepts_program}
use Rattle.sqlite.specs.Listing.{understood}
use Rattle.sqlite.specs.State.{State, mode_of, ExecutesInside}
use Rattle.sqlite.proofs.Callers.{statement_of}
use Rattle.table_forms.specs.Faults.{fault_of, IsFaultOf}
use Rattle.table_forms.specs.Forms.{query_of}
use Rattle.table_forms.proofs.DeleteLemmas.{DeletesRows}
use Rattle.table_forms.proofs.ErrorLemmas.{IsCallOf, HasNoReferences, fails_as, refused_by, same_stop, concludes_well}

abbrev pub rowids_of : ℕ → List Term → Program
rowids_of tree tests = record { lets = []; body = query_of tree tests (col 1 0 ∷ []) [] }

-- a refusal of some rows' removal
abbrev pub RefusesRemoval : Schema → Trees → Table → Error → Type 0
RefusesRemoval schema db table e = (ids : List ℤ) × (why : Refusal) × IsRefused schema Enforced db (edit_of db table ids Given 0 []) why × (e ≡ edit_error why)

module _ (task : Task) (db : Trees) (tests : List Term) (limit : task.limit ≡ None) (typed : accepts_program task.schema [] (query_of task.table.tree tests (col 1 0 ∷ []) []) task.params ≡ true)
    (still : (olds : List Row) → works task.schema task.keys 0 task.table.tree olds [] ≡ []) where
  queried : (e : Error) → Queried task.limit (record { schema = task.schema; trees = db }) (rowids_of task.table.tree tests) task.params (Err (Some e)) → ⊥
  queried e (inl (is, refused)) = true≢false (sym typed ∙ refused)
  queried e (inr (inl (is, inl sums))) = sums
  queried e (inr (inl (is, inr folds))) = (any_has (λ _. ⊥) (overlay db [] task.table.tree) folds).2
  queried e (inr (inr (is, some))) = absurd (let none = rw limit at some in cc)

  went : (e : Error) (ids : List ℤ) (why : Option Refusal) → Writes task.schema task.keys db (edit_of db task.table ids Given 0 []) (Err why) → Some e ≡ option_map edit_error why
      → (w : Refusal) × IsRefused task.schema task.keys db (edit_of db task.table ids Given 0 []) w × (e ≡ edit_error w)
  went e ids None h same = absurd cc
  went e ids (Some w) h same = (w, refused_by task.schema task.keys db (edit_of db task.table ids Given 0 []) w (still (taken_by db (edit_of db task.table ids Given 0 []))) h, cc)

  pub removes : (e : Error) → Deletes task (rowids_of task.table.tree tests) db (Err (Some e))
      → (ids : List ℤ) × (why : Refusal) × IsRefused task.schema task.keys db (edit_of db task.table ids Given 0 []) why × (e ≡ edit_error why)
  removes e (inl (stop, asked, is)) = absurd (queried e (subst (λ s. Queried task.limit (record { schema = task.schema; trees = db }) (rowids_of task.table.tree tests) task.params (Err s)) (same_stop is) asked))
  removes e (inr (rows, answers, inl (stop, (why, wrote, told), is))) = let w = went e (ids_of rows) why wrote (sym (same_stop is) ∙ told) in (ids_of rows, w.0, w.1, w.2)
  removes e (inr (rows, answers, inr (next, wrote, is))) = absurd (let e = is in cc)

pub delete_errors : (schema : Schema) (sql : List ℕ) (at : ℕ) (table : Table) (tests : List Term) → DeletesRows schema sql at table tests → HasNoReferences schema
    → (old new : State) (params : Row) (e : Error) → IsCallOf schema sql params (Delete at (rowids_of table.tree tests)) → old.now.schema ≡ schema → old.step_limit ≡ None
    → accepts_program schema [] (query_of table.tree tests (col 1 0 ∷ []) []) params ≡ true → ExecutesInside 0 sql params old new (Err e)
    → IsFaultOf old new (fault_of e) ⊎ RefusesRemoval schema old.now.trees table e
delete_errors schema sql at table tests it none old new params e call has limit typed h = elim (fails_as schema sql params (Delete at (rowids_of table.tree tests)) call old new has e h) [ inl store ↦ inl store | inr does ↦ inr (go does) ]
  where
    command : Command
    command = Delete at (rowids_of table.tree tests)

    task : Task
    task = record { limit = old.step_limit; keys = Enforced; schema = schema; table = table; params = params }

    db : Trees
    db = old.now.trees

    split : OnRows task (mode_of old) None command db (Err (Some e)) → RefusesRemoval schema db table e
    split (inl (stop, writes, is)) = removes task db tests limit typed it.still e (subst (λ s. Deletes task (rowids_of table.tree tests) db (Err s)) (same_stop is) writes)
    split (inr (w, wrote, ends)) = absurd (concludes_well task (mode_of old) w e none refl ends)

    go : Does old.step_limit (mode_of old) params old.now (statement_of sql (understood schema sql)) None command (Err (Some e)) → RefusesRemoval schema db table e
    go does =
        let here = subst (λ s. Does old.step_limit (mode_of old) params (record old.now { schema = s }) (statement_of sql (understood schema sql)) None command (Err (Some e))) has does in
        split (subst (λ t. AtPlace (λ table. OnRows (record { limit = old.step_limit; keys = Enforced; schema = schema; table = table; params = params }) (mode_of old) None command db) t (Err (Some e))) it.found here)
