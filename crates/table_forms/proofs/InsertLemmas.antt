-- An INSERT of one row.
use Rattle.std.proofs.Common.{◌≡◌, ◌⊎◌, inl, inr, ℕ, ◌/◌, List, [], ◌∷◌, ◌++◌, length, append-nil, drop, ◌-◌, slice_get, Bool, true, false, not, ◌&&◌, true≢false, Some, None, Ok, Err, Result, refl, sym, ap, subst, subst₂, MatchBool, if◌then◌else◌, ◌∙◌}
use Rattle.sqlite.specs.Order.{Row}
use Rattle.sqlite.specs.Term.{Term, eval_all}
use Rattle.sqlite.specs.Table.{Table}
use Rattle.sqlite.specs.Schema.{Schema}
use Rattle.sqlite.specs.Tree.{Trees, put_row}
use Rattle.sqlite.specs.Source.TheVariants.{Values}
use Rattle.sqlite.specs.Command.TheVariants.{Insert}
use Rattle.sqlite.specs.Edit.{Edit, edit_of, is_taken}
use Rattle.sqlite.specs.Rowids.TheVariants.{Chosen, Above}
use Rattle.sqlite_rules.specs.Action.{works, Writes}
use Rattle.sqlite_schema.specs.declared.schema.Keys.TheVariants.{Enforced}
use Rattle.sqlite.specs.Effect.{Database, value_rows, IsSource}
use Rattle.std.specs.Ordering.{is_lt, int_cmp}
use Rattle.std.proofs.Common.{Option, ℤ}
use Rattle.sqlite.specs.declared.run.Mode.{Mode}
use Rattle.sqlite.specs.Does.{Tally, Does, Concludes, AtPlace, OnRows, WritesRows}
use Rattle.sqlite.specs.Rows.{Written, stamped, Task, Inserts, Counts, rowids_for, count_of}
use Rattle.sqlite.specs.Listing.{understood}
use Rattle.sqlite.specs.State.{State, mode_of, Executes}
use Rattle.sqlite.proofs.Callers.{IsPlain, command_of, statement_of, runs_as, one_step, through}
use Rattle.table_forms.specs.Forms.{Changes, inserted}

pub same_value : {B E : Type 0} {a b : B} → ◌≡◌ {A = Result B E} (Ok a) (Ok b) → a ≡ b
same_value e = cc

went : {B E R : Type 0} {b : B} {Stops : E → Type 0} → ((stop : E) × Stops stop × (Ok b ≡ Err stop)) ⊎ R → R
went (inl stopped) = absurd (let e = stopped.2 in cc)
went (inr on) = on

-- the statement adds one row to this table, and sets off nothing
pub record InsertsRow (schema : Schema) (sql : List ℕ) (at : ℕ) (table : Table) (terms : List Term) : Type 0 where
  pub command : command_of (understood schema sql) ≡ Insert at (Values terms (length terms))
  pub plain : IsPlain (understood schema sql)
  pub found : slice_get schema.tables at ≡ Some table
  pub uncounted : table.is_counted ≡ false
  pub unstamped : table.stamps.terms ≡ []
  pub one : (params : Row) → value_rows params (length terms) (length terms / length terms) terms ≡ eval_all terms (params ∷ []) ∷ []
  pub still : (row : Row) → works schema Enforced 0 table.tree [] (row ∷ []) ≡ []

pub off : (P Q : Type 0) (b : Bool) → b ≡ false → MatchBool b P Q → Q
off P Q true bad x = absurd cc
off P Q false _ x = x

-- the one edit that the statement makes
abbrev pub the_edit : Task → List Term → Trees → Edit
the_edit task terms db = edit_of db task.table [] Chosen 0 (eval_all terms (task.params ∷ []) ∷ [])

module _ (task : Task) (terms : List Term) (db : Trees) (uncounted : task.table.is_counted ≡ false) (unstamped : task.table.stamps.terms ≡ [])
    (one : (params : Row) → value_rows params (length terms) (length terms / length terms) terms ≡ eval_all terms (params ∷ []) ∷ []) where
  pub bare : stamped task.table task.params ≡ task.params
  bare = ap (λ ts. task.params ++ eval_all ts (drop (length task.params - length task.table.stamps.formats) task.params ∷ [])) unstamped ∙ append-nil task.params

  pub sources : (rows : List Row) → IsSource (record { schema = task.schema; trees = db }) (stamped task.table task.params) (Values terms (length terms)) rows → rows ≡ eval_all terms (task.params ∷ []) ∷ []
  sources rows from = from.1 ∙ ap (λ p. value_rows p (length terms) (length terms / length terms) terms) bare ∙ one task.params

  pub chosen : (top : ℤ) → rowids_for task.table top ≡ Chosen
  chosen top = ap (λ b. if b then Above top else Chosen) uncounted

  settled : (mid next : Trees) (counter : Option Row) (top : ℤ) → Counts task mid counter top (Ok next) → next ≡ mid
  settled mid next counter top h = same_value (off _ _ _ (ap (λ b. if b then is_lt (int_cmp (count_of counter) top) else false) uncounted) h)

  edits : (done : Written) → Inserts task (Values terms (length terms)) db (Ok done) → Writes task.schema task.keys db (the_edit task terms db) (Ok done.trees)
  edits done (inl stop) = absurd (let e = stop.2 in cc)
  edits done (inr (rows, from, inl stop)) = absurd (let e = stop.2 in cc)
  edits done (inr (rows, from, inr (counter, counted, inl stop))) = absurd (let e = stop.2 in cc)
  edits done (inr (rows, from, inr (counter, counted, inr (mid, wrote, inl stop)))) = absurd (let e = stop.2 in cc)
  edits done (inr (rows, from, inr (counter, counted, inr (mid, wrote, inr (next, kept, is))))) =
      let trees : done.trees ≡ mid = ap (λ (w : Written). w.trees) (same_value is) ∙ settled mid next counter _ kept in
      subst (λ t. Writes task.schema task.keys db (the_edit task terms db) (Ok t)) (sym trees)
      (subst₂ (λ ids all. Writes task.schema task.keys db (edit_of db task.table [] ids 0 all) (Ok mid)) (chosen (count_of counter)) (sources rows from) wrote)

-- a statement with no RETURNING ends with what it wrote
pub concludes : (task : Task) (mode : Mode) (w : Written) (tally : Tally) (after : Database) → Concludes task mode None w (Ok (tally, after)) → after ≡ record { schema = task.schema; trees = w.trees }
concludes task mode w tally after (inl stop) = absurd (let e = stop.2 in cc)
concludes task mode w tally after (inr (doubt, tested, inl stop)) = absurd (let e = stop.2 in cc)
concludes task mode w tally after (inr (doubt, tested, inr (rows, shows, is))) = ap (λ (p : Tally × Database). p.1) (same_value is)

-- what the statement leaves: no row had the new one's rowid, and the new one is put
pub record IsInserted (schema : Schema) (old new : Database) (tree : ℕ) (row : Row) : Type 0 where
  pub fresh : is_taken (old.trees tree) row ≡ false
  pub changes : Changes schema old new tree (put_row row (old.trees tree))

not_taken : (b : Bool) → (not b && true) ≡ true → b ≡ false
not_taken true bad = absurd (true≢false (sym bad))
not_taken false good = refl

pub inserts : (schema : Schema) (sql : List ℕ) (at : ℕ) (table : Table) (terms : List Term) → InsertsRow schema sql at table terms
    → (old new : State) (params : Row) (count : ℕ) → old.now.schema ≡ schema → Executes sql params old new (Ok count)
    → IsInserted schema old.now new.now table.tree (inserted table (old.now.trees table.tree) terms params)
inserts schema sql at table terms it old new params count has h =
    let db = old.now.trees in
    let command = Insert at (Values terms (length terms)) in
    let w = runs_as sql params old new schema has command it.command it.plain count h in
    let text = statement_of sql (understood schema sql) in
    let does = subst (λ s. Does old.step_limit (mode_of old) params (record old.now { schema = s }) text None command (Ok (w.tally, new.now))) has w.changed in
    let task : Task = record { limit = old.step_limit; keys = Enforced; schema = schema; table = table; params = params } in
    let on = subst (λ t. AtPlace (λ table. OnRows (record { limit = old.step_limit; keys = Enforced; schema = schema; table = table; params = params }) (mode_of old) None command db) t (Ok (w.tally, new.now))) it.found does in
    let parts = through (WritesRows task db command) (Concludes task (mode_of old) None) (w.tally, new.now) on in
    let now = concludes task (mode_of old) parts.0 w.tally new.now parts.2 in
    let wrote = edits task terms db it.uncounted it.unstamped it.one parts.0 parts.1 in
    let applied = one_step schema Enforced db parts.0.trees (the_edit task terms db) (it.still (inserted table (db table.tree) terms params)) wrote in
    record {
      fresh = not_taken _ applied.fresh;
      changes = record {
        schema_is = ap (λ (d : Database). d.schema) now;
        sound = w.sound;
        rows_are = ap (λ (d : Database). d.trees table.tree) now ∙ applied.rows;
        others = λ t apart none. ap (λ (d : Database). d.trees t) now ∙ applied.others t apart none;
      };
    }
