-- Why an UPDATE of the one row that passes tests fails.
use Rattle.std.proofs.Common.{◌≡◌, ◌⊎◌, inl, inr, ℕ, List, [], ◌∷◌, true, Option, Some, None, option_map, Err, refl, sym, subst, ◌∙◌, true≢false}
use Rattle.sqlite_rules.proofs.ListLemmas.{any_has}
use Rattle.sqlite.specs.Order.{Row}
use Rattle.sqlite.specs.Term.{Term, eval_all}
use Rattle.sqlite.specs.Table.{Table}
use Rattle.sqlite.specs.Schema.{Schema}
use Rattle.sqlite.specs.Tree.{Trees}
use Rattle.sqlite.specs.Program.{overlay}
use Rattle.sqlite.specs.Command.{Command}
use Rattle.sqlite.specs.Command.TheVariants.{Update}
use Rattle.sqlite.specs.Edit.{edit_of, IsRefused}
use Rattle.sqlite.specs.Rowids.TheVariants.{Given}
use Rattle.sqlite_rules.specs.Action.{works, Writes}
use Rattle.sqlite_rules.specs.Calls.{ids_of}
use Rattle.sqlite_rules.specs.declared.error.Refusal.{Refusal}
use Rattle.sqlite_schema.specs.declared.schema.Keys.TheVariants.{Enforced}
use Rattle.sqlite_schema.specs.declared.program.Program.{Program}
use Rattle.sqlite.specs.declared.error.Error.{Error}
use Rattle.sqlite.specs.Effect.{edit_error}
use Rattle.sqlite.specs.Does.{Does, AtPlace, OnRows}
use Rattle.sqlite.specs.Rows.{Task, Queried, Updates}
use Rattle.sqlite_typing.specs.Types.{accepts_program}
use Rattle.sqlite.specs.Listing.{understood}
use Rattle.sqlite.specs.State.{State, mode_of, ExecutesInside}
use Rattle.sqlite.proofs.Callers.{statement_of}
use Rattle.table_forms.specs.Faults.{fault_of, IsFaultOf}
use Rattle.table_forms.specs.Forms.{query_of, passes}
use Rattle.table_forms.proofs.QueryLemmas.{finds, found}
use Rattle.table_forms.proofs.UpdateLemmas.{UpdatesRows, updating, update_edit}
use Rattle.table_forms.proofs.ErrorLemmas.{IsCallOf, HasNoReferences, fails_as, refused_by, same_stop, concludes_well}
use Rattle.std.proofs.Common.{filter, map}
use Rattle.std.specs.List.Sorted.{IsPermutation}
use Rattle.sqlite.specs.Effect.{Answers}
use Rattle.sqlite.proofs.Callers.{one_permutation}

-- a refusal of the row's new cells
abbrev pub RefusesUpdate : Schema → Trees → Table → Row → Error → Type 0
RefusesUpdate schema db table row e =
    (why : Refusal) × IsRefused schema Enforced db (update_edit db table row) why × (e ≡ edit_error why)

module _ (task : Task) (db : Trees) (tests terms : List Term) (row : Row) (limit : task.limit ≡ None)
    (one : filter (passes tests task.params) (db task.table.tree) ≡ row ∷ [])
    (typed : accepts_program task.schema [] (query_of task.table.tree tests terms []) task.params ≡ true)
    (still : (olds news : List Row) → works task.schema task.keys 0 task.table.tree olds news ≡ []) where
  q : Program
  q = updating task.table tests terms

  queried : (e : Error) → Queried task.limit (record { schema = task.schema; trees = db }) (updating task.table tests terms) task.params (Err (Some e)) → ⊥
  queried e (inl (is, refused)) = true≢false (sym typed ∙ refused)
  queried e (inr (inl (is, inl sums))) = sums
  queried e (inr (inl (is, inr folds))) = (any_has (λ _. ⊥) (overlay db [] task.table.tree) folds).2
  queried e (inr (inr (is, some))) = absurd (let none = rw limit at some in cc)

  rows_are : (rows : List Row) → Answers (record { schema = task.schema; trees = db }) (updating task.table tests terms) task.params rows
      → rows ≡ eval_all terms (task.params ∷ row ∷ []) ∷ []
  rows_are rows answers =
      let permuted = found task.table.tree tests terms [] db task.params rows (finds task.table.tree tests terms [] db task.params rows answers.answer) in
      one_permutation _ rows (subst (λ xs. IsPermutation (map (λ r. eval_all terms (task.params ∷ r ∷ [])) xs) rows) one permuted)

  went : (e : Error) (rows : List Row) (why : Option Refusal) → Writes task.schema task.keys db (edit_of db task.table (ids_of rows) Given 1 rows) (Err why)
      → Some e ≡ option_map edit_error why
      → (w : Refusal) × IsRefused task.schema task.keys db (edit_of db task.table (ids_of rows) Given 1 rows) w × (e ≡ edit_error w)
  went e rows None h same = absurd cc
  went e rows (Some w) h same = (
    w,
    refused_by task.schema task.keys db (edit_of db task.table (ids_of rows) Given 1 rows) w (still _ _) h,
    cc,
  )

  pub replaces : (e : Error) → Updates task (updating task.table tests terms) task.params db (Err (Some e))
      → (why : Refusal) × IsRefused task.schema task.keys db (update_edit db task.table (eval_all terms (task.params ∷ row ∷ []))) why × (e ≡ edit_error why)
  replaces e (inl (stop, asked, is)) =
      absurd (queried e (subst (λ s. Queried task.limit (record { schema = task.schema; trees = db }) (updating task.table tests terms) task.params (Err s)) (same_stop is) asked))
  replaces e (inr (rows, answers, inl (stop, (why, wrote, told), is))) =
      let w = went e rows why wrote (sym (same_stop is) ∙ told) in
      (w.0, subst (λ rs. IsRefused task.schema task.keys db (edit_of db task.table (ids_of rs) Given 1 rs) w.0) (rows_are rows answers) w.1, w.2)
  replaces e (inr (rows, answers, inr (next, wrote, is))) = absurd (let e = is in cc)

pub update_errors : (schema : Schema) (sql : List ℕ) (at : ℕ) (table : Table) (tests terms : List Term) → UpdatesRows schema sql at table tests terms
    → HasNoReferences schema → (old new : State) (params row : Row) (e : Error) → IsCallOf schema sql params (Update at (updating table tests terms))
    → old.now.schema ≡ schema → old.step_limit ≡ None → filter (passes tests params) (old.now.trees table.tree) ≡ row ∷ []
    → accepts_program schema [] (query_of table.tree tests terms []) params ≡ true → ExecutesInside 0 sql params old new (Err e)
    → IsFaultOf old new (fault_of e) ⊎ RefusesUpdate schema old.now.trees table (eval_all terms (params ∷ row ∷ [])) e
update_errors schema sql at table tests terms it none old new params row e call has limit one typed h =
    elim (fails_as schema sql params (Update at (updating table tests terms)) call old new has e h) [ inl store ↦ inl store | inr does ↦ inr (go does) ]
  where
    command : Command
    command = Update at (updating table tests terms)

    task : Task
    task = record { limit = old.step_limit; keys = Enforced; schema = schema; table = table; params = params }

    db : Trees
    db = old.now.trees

    split : OnRows task (mode_of old) None command db (Err (Some e)) → RefusesUpdate schema db table (eval_all terms (params ∷ row ∷ [])) e
    split (inl (stop, writes, is)) =
        replaces task db tests terms row limit one typed it.still e (subst (λ s. Updates task (updating table tests terms) params db (Err s)) (same_stop is) writes)
    split (inr (w, wrote, ends)) = absurd (concludes_well task (mode_of old) w e none refl ends)

    go : Does old.step_limit (mode_of old) params old.now (statement_of sql (understood schema sql)) None command (Err (Some e))
        → RefusesUpdate schema db table (eval_all terms (params ∷ row ∷ [])) e
    go does =
        let here = subst (λ s. Does old.step_limit (mode_of old) params (record old.now { schema = s }) (statement_of sql (understood schema sql)) None command (Err (Some e))) has does in
        split (subst (λ t. AtPlace (λ table. OnRows (record { limit = old.step_limit; keys = Enforced; schema = schema; table = table; params = params })
        (mode_of old) None command db) t (Err (Some e))) it.found here)
