-- A CREATE TABLE and a CREATE INDEX: the schema after them, and the rows that stay.
use Rattle.std.proofs.Common.{◌≡◌, inl, inr, ℕ, List, [], ◌∷◌, false, None, Ok, slice_get, Some, refl, sym, ap, subst, ◌∙◌}
use Rattle.sqlite.specs.Table.{Table}
use Rattle.sqlite.specs.Schema.{Schema}
use Rattle.sqlite.specs.Tree.{Trees}
use Rattle.sqlite.specs.Command.TheVariants.{CreateTable, CreateIndex}
use Rattle.sqlite.specs.Compile.{table_defined_by, index_defined_by}
use Rattle.sqlite.specs.Change.{created, next_tree, indexed}
use Rattle.sqlite_catalog.specs.Change.{KeepsRows}
use Rattle.sqlite_schema.specs.declared.schema.Index.{Index}
use Rattle.sqlite.specs.Effect.{Database, IsDatabase}
use Rattle.sqlite.specs.Does.{Tally, Does, Defines, MakesIndex, MakesTable, MakesSequence, lacks_sequence, AtPlace}
use Rattle.sqlite.specs.declared.run.Mode.{Mode}
use Rattle.sqlite.specs.Listing.{understood}
use Rattle.sqlite.specs.State.{State, mode_of, Executes}
use Rattle.sqlite.specs.Rows.{Then}
use Rattle.sqlite.proofs.Callers.{IsPlain, command_of, statement_of, runs_as}
use Rattle.table_forms.proofs.InsertLemmas.{same_value, off}

-- the text creates this table
pub record CreatesTable (schema : Schema) (sql : List ℕ) (table : Table) : Type 0 where
  pub command : command_of (understood schema sql) ≡ CreateTable
  pub plain : IsPlain (understood schema sql)
  pub text : statement_of sql (understood schema sql) ≡ sql
  pub defined : table_defined_by sql ≡ Ok table
  pub uncounted : lacks_sequence (created schema table) ≡ false

-- the table is there, with no row, and the rows of all others stay
pub record IsCreated (schema : Schema) (table : Table) (old : Trees) (new : Database) : Type 0 where
  pub schema_is : new.schema ≡ created schema table
  pub sound : IsDatabase new
  pub empty : new.trees (next_tree schema) ≡ []
  pub rows : KeepsRows schema.tables old new.trees

pub creates : (schema : Schema) (sql : List ℕ) (table : Table) → CreatesTable schema sql table
    → (old new : State) (count : ℕ) → old.now.schema ≡ schema → Executes sql [] old new (Ok count) → IsCreated schema table old.now.trees new.now
creates schema sql table it old new count has h =
    let w = runs_as sql [] old new schema has CreateTable it.command it.plain count h in
    let does = subst (λ s. Defines (mode_of old) (Then (MakesTable (statement_of sql (understood schema sql)) s) MakesSequence) (Ok (w.tally, new.now)))
    (ap (λ s. let d : Database = record { schema = s; trees = old.now.trees } in d) has) w.changed in
    let texted = subst (λ t. Defines (mode_of old) (Then (MakesTable t (record { schema = schema; trees = old.now.trees })) MakesSequence) (Ok (w.tally, new.now)))
    it.text does in
    defined (mode_of old) (record { schema = schema; trees = old.now.trees }) w.tally new.now w.sound refl texted
  where
    made : (db mid after : Database) → IsDatabase after → db.schema ≡ schema → MakesTable sql db (Ok mid) → MakesSequence mid (Ok after)
        → IsCreated schema table db.trees after
    made db mid after sound has it0 more =
        let same : it0.table ≡ table = same_value (sym it0.defined ∙ it.defined) in
        let schema_is : mid.schema ≡ created schema table = it0.is ∙ ap (λ s. created s it0.table) has ∙ ap (created schema) same in
        let now : after ≡ mid = same_value (off _ _ _ (ap lacks_sequence schema_is ∙ it.uncounted) more) in
        record {
          schema_is = ap (λ (d : Database). d.schema) now ∙ schema_is;
          sound = sound;
          empty = ap (λ (d : Database). d.trees (next_tree schema)) now ∙ subst (λ s. mid.trees (next_tree s) ≡ []) has it0.empty;
          rows = subst (λ (d : Database). KeepsRows schema.tables db.trees d.trees) (sym now)
              (subst (λ s. KeepsRows s.tables db.trees mid.trees) has it0.others);
        }

    defined : (mode : Mode) (db : Database) (tally : Tally) (after : Database) → IsDatabase after → (db.schema ≡ schema)
        → Defines mode (Then (MakesTable sql db) MakesSequence) (Ok (tally, after)) → IsCreated schema table db.trees after
    defined mode db tally after sound has (inl stop) = absurd (let e = stop.2 in cc)
    defined mode db tally after sound has (inr (last, inl stop, is)) = absurd (let e = stop.2 in cc)
    defined mode db tally after sound has (inr (last, inr (mid, first, more), is)) =
        let same : after ≡ last = ap (λ (p : Tally × Database). p.1) (same_value is) in
        subst (IsCreated schema table db.trees) (sym same) (made db mid last (subst IsDatabase same sound) has first more)

-- the text creates this index on the table at this place
pub record CreatesIndex (schema : Schema) (sql : List ℕ) (at : ℕ) (table : Table) (index : Index) : Type 0 where
  pub command : command_of (understood schema sql) ≡ CreateIndex at
  pub plain : IsPlain (understood schema sql)
  pub text : statement_of sql (understood schema sql) ≡ sql
  pub found : slice_get schema.tables at ≡ Some table
  pub defined : index_defined_by table sql ≡ Ok index

-- the index is there, and the rows of all tables stay
pub record IsIndexed (schema : Schema) (table : Table) (index : Index) (old : Trees) (new : Database) : Type 0 where
  pub schema_is : new.schema ≡ indexed schema table index
  pub sound : IsDatabase new
  pub rows : KeepsRows schema.tables old new.trees

made_index : (schema : Schema) (sql : List ℕ) (at : ℕ) (table : Table) (index : Index) → CreatesIndex schema sql at table index → (text : List ℕ) → text ≡ sql
    → (db : Trees) (tally : Tally) (after : Database) (mode : Mode) → IsDatabase after
    → Defines mode (MakesIndex text (record { schema = schema; trees = db }) table) (Ok (tally, after)) → IsIndexed schema table index db after
made_index schema sql at table index it text is db tally after mode sound (inl stop) = absurd (let e = stop.2 in cc)
made_index schema sql at table index it text is db tally after mode sound (inr (last, made, same)) =
    let now : after ≡ last = ap (λ (p : Tally × Database). p.1) (same_value same) in
    let one = same_value (sym made.defined ∙ ap (index_defined_by table) is ∙ it.defined) in
    record {
      schema_is = ap (λ (d : Database). d.schema) now ∙ made.is ∙ ap (indexed schema table) one;
      sound = sound;
      rows = subst (λ (d : Database). KeepsRows schema.tables db d.trees) (sym now) made.rows;
    }

pub creates_index : (schema : Schema) (sql : List ℕ) (at : ℕ) (table : Table) (index : Index) → CreatesIndex schema sql at table index
    → (old new : State) (count : ℕ) → old.now.schema ≡ schema → Executes sql [] old new (Ok count) → IsIndexed schema table index old.now.trees new.now
creates_index schema sql at table index it old new count has h =
    let w = runs_as sql [] old new schema has (CreateIndex at) it.command it.plain count h in
    let text = statement_of sql (understood schema sql) in
    let does = subst (λ s. Does old.step_limit (mode_of old) [] (record old.now { schema = s }) text None (CreateIndex at) (Ok (w.tally, new.now))) has w.changed in
    let on = subst (λ t. AtPlace (λ table. Defines (mode_of old) (MakesIndex text (record { schema = schema; trees = old.now.trees }) table)) t (Ok (w.tally, new.now)))
    it.found does in
    made_index schema sql at table index it text it.text old.now.trees w.tally new.now (mode_of old) w.sound on

-- rows that stayed twice stayed
pub still_rows : (tables : List Table) (first old new : Trees) → KeepsRows tables first old → KeepsRows tables old new → KeepsRows tables first new
still_rows [] first old new was kept = tt
still_rows (t ∷ tables) first old new was kept = (kept.0 ∙ was.0, still_rows tables first old new was.1 kept.1)
