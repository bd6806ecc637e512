-- An UPDATE of the one row that passes tests.
use Rattle.std.proofs.Common.{◌≡◌, inl, inr, ℕ, List, [], ◌∷◌, filter, map, slice_get, None, Some, Ok, sym, ap, subst, ◌∙◌}
use Rattle.std.specs.List.Sorted.{IsPermutation}
use Rattle.sqlite.specs.Order.{Row}
use Rattle.sqlite.specs.Term.{Term, eval_all}
use Rattle.sqlite.specs.Table.{Table}
use Rattle.sqlite.specs.Schema.{Schema}
use Rattle.sqlite.specs.Tree.{Trees}
use Rattle.sqlite.specs.Command.TheVariants.{Update}
use Rattle.sqlite.specs.Edit.{Edit, edit_of, edited}
use Rattle.sqlite.specs.Rowids.TheVariants.{Given}
use Rattle.sqlite_rules.specs.Action.{works, Writes}
use Rattle.sqlite_rules.specs.Calls.{ids_of}
use Rattle.sqlite_schema.specs.declared.schema.Keys.TheVariants.{Enforced}
use Rattle.sqlite_schema.specs.declared.program.Program.{Program}
use Rattle.sqlite.specs.Effect.{Database, Answers}
use Rattle.sqlite.specs.Does.{Does, Concludes, AtPlace, OnRows, WritesRows}
use Rattle.sqlite.specs.Rows.{Written, Task, Updates}
use Rattle.sqlite.specs.Listing.{understood}
use Rattle.sqlite.specs.State.{State, mode_of, Executes}
use Rattle.sqlite.proofs.Callers.{IsPlain, command_of, statement_of, runs_as, one_step, through, one_permutation}
use Rattle.table_forms.specs.Forms.{Changes, query_of, passes}
use Rattle.table_forms.proofs.QueryLemmas.{finds, found}
use Rattle.table_forms.proofs.InsertLemmas.{same_value, concludes}

-- the rows that pass, each with its id and the cells that it is to have
abbrev pub updating : Table → List Term → List Term → Program
updating table tests terms = record { lets = []; body = query_of table.tree tests terms [] }

-- the text updates the rows of this table that pass these tests
pub record UpdatesRows (schema : Schema) (sql : List ℕ) (at : ℕ) (table : Table) (tests terms : List Term) : Type 0 where
  pub command : command_of (understood schema sql) ≡ Update at (updating table tests terms)
  pub plain : IsPlain (understood schema sql)
  pub found : slice_get schema.tables at ≡ Some table
  pub still : (olds news : List Row) → works schema Enforced 0 table.tree olds news ≡ []

-- the edit of a row that was found so
abbrev pub update_edit : Trees → Table → Row → Edit
update_edit db table row = edit_of db table (ids_of (row ∷ [])) Given 1 (row ∷ [])

module _ (task : Task) (q : Program) (db : Trees) where
  updated : (done : Written) → Updates task q task.params db (Ok done)
      → (rows : List Row) × Answers (record { schema = task.schema; trees = db }) q task.params rows
      × Writes task.schema task.keys db (edit_of db task.table (ids_of rows) Given 1 rows) (Ok done.trees)
  updated done (inl stop) = absurd (let e = stop.2 in cc)
  updated done (inr (rows, answers, inl stop)) = absurd (let e = stop.2 in cc)
  updated done (inr (rows, answers, inr (next, wrote, is))) = (
    rows,
    answers,
    subst (λ t. Writes task.schema task.keys db (edit_of db task.table (ids_of rows) Given 1 rows) (Ok t))
        (sym (ap (λ (w : Written). w.trees) (same_value is))) wrote,
  )

-- where one row passes, it has the cells of the terms
pub updates_one : (schema : Schema) (sql : List ℕ) (at : ℕ) (table : Table) (tests terms : List Term) → UpdatesRows schema sql at table tests terms
    → (old new : State) (params row : Row) (count : ℕ) → old.now.schema ≡ schema → filter (passes tests params) (old.now.trees table.tree) ≡ row ∷ []
    → Executes sql params old new (Ok count)
    → Changes schema old.now new.now table.tree (edited old.now.trees (update_edit old.now.trees table (eval_all terms (params ∷ row ∷ []))))
updates_one schema sql at table tests terms it old new params row count has one h =
    let db = old.now.trees in
    let q = updating table tests terms in
    let command = Update at q in
    let w = runs_as sql params old new schema has command it.command it.plain count h in
    let text = statement_of sql (understood schema sql) in
    let does = subst (λ s. Does old.step_limit (mode_of old) params (record old.now { schema = s }) text None command (Ok (w.tally, new.now))) has w.changed in
    let task : Task = record { limit = old.step_limit; keys = Enforced; schema = schema; table = table; params = params } in
    let on = subst (λ t. AtPlace (λ table. OnRows (record { limit = old.step_limit; keys = Enforced; schema = schema; table = table; params = params })
    (mode_of old) None command db) t (Ok (w.tally, new.now))) it.found does in
    let parts = through (WritesRows task db command) (Concludes task (mode_of old) None) (w.tally, new.now) on in
    let now = concludes task (mode_of old) parts.0 w.tally new.now parts.2 in
    let wrote = updated task q db parts.0 parts.1 in
    let permuted = found table.tree tests terms [] db params wrote.0 (finds table.tree tests terms [] db params wrote.0 wrote.1.answer) in
    let rows : wrote.0 ≡ eval_all terms (params ∷ row ∷ []) ∷ [] =
    one_permutation _ wrote.0 (subst (λ xs. IsPermutation (map (λ r. eval_all terms (params ∷ r ∷ [])) xs) wrote.0) one permuted) in
    let edit : Edit = edit_of db table (ids_of wrote.0) Given 1 wrote.0 in
    let applied = one_step schema Enforced db parts.0.trees edit (it.still _ _) wrote.2 in
    record {
      schema_is = ap (λ (d : Database). d.schema) now;
      sound = w.sound;
      rows_are = ap (λ (d : Database). d.trees table.tree) now ∙ applied.rows ∙ ap (λ rs. edited db (edit_of db table (ids_of rs) Given 1 rs)) rows;
      others = λ t apart none. ap (λ (d : Database). d.trees t) now ∙ applied.others t apart none;
    }
