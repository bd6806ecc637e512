-- What one text that makes a table or an index comes to, and several of them.
use Rattle.table_history.proofs.Imports.{IsBlank, Builds, HasRun, IsBuilt, no_tables}
use Rattle.table_schema.proofs.Exports.{◌≡◌, ◌≤◌, inl, inr, ℕ, ◌+◌, ◌^◌, List, [], ◌∷◌, ◌++◌, length, codes, true, false, Some, slice_get, None, Result, Ok, Err, IfOk, IsTrue, refl, sym, ap, subst, ◌∙◌, arith, AllByRecursion, is_utf8, created, indexed, next_tree, is_used, is_reserved, automatics, CreateTable, CreateIndex, table_defined_by, index_defined_by, understood, Text, IsPlain, command_of, statement_of, Row, Schema, Table, Trees, State, IsLive, HasCleanDisk, KeepsCommit, Survives, ExecutesInside, Error, survives_then, Keeps, table_reals, index_reals, Index, StoreFault, IsFaultOf, faults_later, fault_of, written, tail_of, width_of, IsSureTable, IsSureIndex, table_free, index_free, CreatesTable, CreatesIndex, creates, creates_index, still_rows, Held, state, Ghosts}
use Rattle.std.proofs.Math.Dec.{leb}
use Rattle.sqlite.specs.Does.{lacks_sequence}
use Rattle.sqlite_catalog.specs.Listing.{is_fit, is_formed}
use Rattle.sqlite.proofs.InsideLemmas.{keeps_then}
use Rattle.sqlite_schema.specs.declared.schema.Constraint.TheVariants.{Unique}

-- ---- one text

-- what a text with these parameters makes
pub record IsMaking (sql : List ℕ) (params : Row) (Before After : State → Type 0) : Type 1 where
  pub begun : (s : State) → Before s → IsTrue s.in_transaction
  pub makes : (old new : State) (count : ℕ) → Before old → new.step_limit ≡ old.step_limit → ExecutesInside 0 sql params old new (Ok count) → After new
  pub free : (old new : State) (e : Error) → Before old → ExecutesInside 0 sql params old new (Err e) → IsFaultOf old new (fault_of e)

kept : (sql : List ℕ) (params : Row) (old new : State) (e : Error) → ExecutesInside 0 sql params old new (Err e) → KeepsCommit old new
kept sql params old new e (inl (h, inl same)) = record { was_open = λ _. same.0.was_open; committed = λ _. same.0.committed_is }
kept sql params old new e (inl (h, inr back)) = record { was_open = back.was_open; committed = λ o. (back.undone o).1 }
kept sql params old new e (inr (h, why, same)) = record { was_open = λ _. same.0.was_open; committed = λ _. same.0.committed_is }

pub builds_write : (sql : List ℕ) (params : Row) (Before After : State → Type 0) → IsMaking sql params Before After
    → (old new : State) (r : Result ℕ Error) → Survives old new (λ _. ⊥) → (HasCleanDisk new → IsTrue old.in_transaction → ExecutesInside 0 sql params old new r) → Builds Before After old new (written r)
builds_write sql params Before After it old new (Ok count) survives runs = record {
  survives = survives;
  keeps = λ clean inside. let h = runs clean inside in record { was_open = λ _. h.1.was_open; committed = λ _. h.1.committed_is };
  goes_on = λ clean inside. (runs clean inside).1.mode;
  ok = λ clean before. let h = runs clean (it.begun old before) in (h.1.was_open, h.1.is_open, it.makes old new count before survives.limit h);
  cause = λ clean before. tt;
}
builds_write sql params Before After it old new (Err e) survives runs = record {
  survives = survives;
  keeps = λ clean inside. kept sql params old new e (runs clean inside);
  goes_on = λ clean inside. tt;
  ok = λ clean before. tt;
  cause = λ clean before. it.free old new e before (runs clean (it.begun old before));
}

pub builds_run : (sql : List ℕ) (Before After : State → Type 0) → IsMaking sql [] Before After → (old new : State) (r : Result (Unit {0}) StoreFault) → HasRun sql old new r → Builds Before After old new r
builds_run sql Before After it old new r run =
    subst (Builds Before After old new) (sym run.told) (builds_write sql [] Before After it old new run.answer run.survives run.runs)

-- ---- several of them

module _ (P Q R : State → Type 0) (old mid new : State) where
  -- one after another
  pub builds_then : (r : Result (Unit {0}) StoreFault) → Builds P Q old mid (Ok tt) → Builds Q R mid new r → Builds P R old new r
  builds_then r one two = record {
    survives = survives_then old mid new _ _ (λ _. ⊥) (λ _ db none. none) (λ _ db none. none) one.survives two.survives;
    keeps = λ clean inside. keeps_then old mid new (one.keeps (early clean) inside) (two.keeps clean (one.goes_on (early clean) inside));
    goes_on = λ clean inside. two.goes_on clean (one.goes_on (early clean) inside);
    ok = λ clean before. goes r (one.ok (early clean) before).0 (two.ok clean (went clean before));
    cause = λ clean before. faults_later old mid new _ _ one.survives two.survives (early clean) r (two.cause clean (went clean before));
  }
    where
      early : HasCleanDisk new → HasCleanDisk mid
      early clean = omega (arith, two.survives.clean, clean)

      went : HasCleanDisk new → P old → Q mid
      went clean before = (one.ok (early clean) before).2

      goes : (r : Result (Unit {0}) StoreFault) → IsTrue old.is_open → IfOk r (λ _. IsTrue mid.is_open × IsTrue new.is_open × R new) → IfOk r (λ _. IsTrue old.is_open × IsTrue new.is_open × R new)
      goes (Ok a) was h = (was, h.1, h.2)
      goes (Err e) was h = tt

-- the call failed, and with it all
pub builds_stop : (P Q R : State → Type 0) (old new : State) (fault : StoreFault) → Builds P Q old new (Err fault) → Builds P R old new (Err fault)
builds_stop P Q R old new fault h = record { survives = h.survives; keeps = h.keeps; goes_on = λ clean inside. tt; ok = λ clean before. tt; cause = h.cause }

-- what held before is what another says, and so is what holds after
pub builds_as : (P Q P' Q' : State → Type 0) (old new : State) (r : Result (Unit {0}) StoreFault) → (P' old → P old) → (P' old → IsTrue old.is_open → Q new → Q' new)
    → Builds P Q old new r → Builds P' Q' old new r
builds_as P Q P' Q' old new r before after h = record {
  survives = h.survives;
  keeps = h.keeps;
  goes_on = h.goes_on;
  ok = λ clean was. goes r was (h.ok clean (before was));
  cause = λ clean was. h.cause clean (before was);
}
  where
    goes : (r : Result (Unit {0}) StoreFault) → P' old → IfOk r (λ _. IsTrue old.is_open × IsTrue new.is_open × Q new) → IfOk r (λ _. IsTrue old.is_open × IsTrue new.is_open × Q' new)
    goes (Ok a) was g = (g.0, g.1, after was g.0 g.2)
    goes (Err e) was g = tt

-- ---- a table, an index

all_push : {X : Type 0} (P : X → Type 0) (xs : List X) (x : X) → AllByRecursion P xs → P x → AllByRecursion P (xs ++ x ∷ [])
all_push P [] x all one = (one, tt)
all_push P (y ∷ xs) x all one = (all.0, all_push P xs x all.1 one)

-- a table as a text defines it, before it has a place
abbrev unplaced : Table → Table
unplaced table = record table { tree = 0 }

-- the text adds a table to the schema
pub record AddsTable (schema : Schema) (sql : List ℕ) (table : Table) (later : Schema) : Type 0 where
  pub creates : CreatesTable schema sql (unplaced table)
  pub sure : IsSureTable schema sql (unplaced table)
  pub placed : next_tree schema ≡ table.tree
  pub later_is : created schema (unplaced table) ≡ later

-- each fact is one that computing shows of a table's text
pub table_adds : (schema : Schema) (sql : List ℕ) (table : Table) (later : Schema) → let t = unplaced table in command_of (understood schema sql) ≡ CreateTable
    → IsPlain (understood schema sql) → statement_of sql (understood schema sql) ≡ sql → table_defined_by sql ≡ Ok t
    → lacks_sequence (created schema t) ≡ false → length sql ≤ tail_of (understood schema sql) → 0 ≡ width_of (understood schema sql)
    → is_utf8 sql ≡ true → is_utf8 t.name ≡ true → is_used schema t.name ≡ false
    → AllByRecursion (λ i. is_used schema i.name ≡ false) (automatics t 0 0 t.uniques) → is_reserved t.name ≡ false
    → leb 65536 (next_tree schema + length t.uniques) ≡ false → leb (2 ^ 64) (table_reals t) ≡ false
    → AllByRecursion (λ key. leb (2 ^ 64) (index_reals (table_reals t) key) ≡ false) t.uniques → is_formed t ≡ true
    → is_fit (Text (codes "table")) (Text t.name) (Text t.name) (Text sql) ≡ true → next_tree schema ≡ table.tree → created schema t ≡ later
    → AddsTable schema sql table later
table_adds schema sql table later command plain text defined uncounted whole given utf8 named free keys_free unreserved few small keys_small formed fits placed later_is = record {
  creates = record { command = command; plain = plain; text = text; defined = defined; uncounted = uncounted };
  sure = record {
    call = record { command_is = command; writes = tt; plain = plain; whole = whole; given = given };
    utf8 = utf8;
    named = named;
    free = free;
    keys_free = keys_free;
    unreserved = unreserved;
    few = few;
    small = small;
    keys_small = keys_small;
    formed = formed;
    fits = fits;
  };
  placed = placed;
  later_is = later_is;
}

-- the text adds an index to the schema
pub record AddsIndex (schema : Schema) (sql : List ℕ) (at : ℕ) (table : Table) (index : Index) (later : Schema) : Type 0 where
  pub creates : CreatesIndex schema sql at table index
  pub sure : IsSureIndex schema sql at table index
  pub later_is : indexed schema table index ≡ later

-- each fact is one that computing shows of an index's text
pub index_adds : (schema : Schema) (sql : List ℕ) (at : ℕ) (table : Table) (index : Index) (later : Schema)
    → command_of (understood schema sql) ≡ CreateIndex at → IsPlain (understood schema sql) → statement_of sql (understood schema sql) ≡ sql
    → slice_get schema.tables at ≡ Some table → index_defined_by table sql ≡ Ok index → length sql ≤ tail_of (understood schema sql)
    → 0 ≡ width_of (understood schema sql) → is_utf8 sql ≡ true → is_utf8 index.name ≡ true → is_utf8 table.name ≡ true
    → is_used schema index.name ≡ false → is_reserved index.name ≡ false → leb 65536 (next_tree schema) ≡ false
    → leb (2 ^ 64) (table_reals table) ≡ false → leb (2 ^ 64) (index_reals (table_reals table) index.columns) ≡ false
    → is_fit (Text (codes "index")) (Text index.name) (Text table.name) (Text sql) ≡ true → index.is_unique ≡ false
    → indexed schema table index ≡ later → AddsIndex schema sql at table index later
index_adds schema sql at table index later command plain text found defined whole given utf8 named table_named free unreserved few small key_small fits repeats later_is = record {
  creates = record { command = command; plain = plain; text = text; found = found; defined = defined };
  sure = record {
    call = record { command_is = command; writes = tt; plain = plain; whole = whole; given = given };
    utf8 = utf8;
    named = named;
    table_named = table_named;
    free = free;
    unreserved = unreserved;
    few = few;
    small = small;
    key_small = key_small;
    fits = fits;
    repeats = repeats;
  };
  later_is = later_is;
}

-- ---- what they make

module _ (Fact : Type 0) (rows : Trees) (schema : Schema) where
  -- what a sound database under a schema keeps
  pub unique_in : (s : State) → IsBuilt Fact rows schema s → IsTrue s.is_open → Keeps Unique schema s.now.trees
  unique_in s was live = subst (λ k. Keeps Unique k s.now.trees) (was.schema_is live) ((was.sound live).obeys.rules Unique)

  -- the new table has no row
  pub table_is : (sql : List ℕ) (table : Table) (later : Schema) → rows table.tree ≡ [] → AddsTable schema sql table later
      → IsMaking sql [] (IsBuilt Fact rows schema) (IsBuilt Fact rows later)
  table_is sql table later none it = record {
    begun = λ s was. was.begun;
    makes = λ old new count was limit h. subst (λ k. IsBuilt Fact rows k new) it.later_is (made old new count was limit h);
    free = λ old new e was. table_free schema sql (unplaced table) it.creates it.sure old new e was.schema_is;
  }
    where
      made : (old new : State) (count : ℕ) → IsBuilt Fact rows schema old → new.step_limit ≡ old.step_limit → ExecutesInside 0 sql [] old new (Ok count)
          → IsBuilt Fact rows (created schema (unplaced table)) new
      made old new count was limit h =
          let live = h.1.was_open in
          let done = creates schema sql (unplaced table) it.creates old new count (was.schema_is live) h.0 in
          record {
            begun = h.1.mode;
            unlimited = limit ∙ was.unlimited;
            schema_is = λ _. done.schema_is;
            sound = λ _. done.sound;
            rows_are = λ _. all_push (λ t. new.now.trees t.tree ≡ rows t.tree) schema.tables (record table { tree = next_tree schema })
                (still_rows schema.tables rows old.now.trees new.now.trees (was.rows_are live) done.rows) (done.empty ∙ sym (ap rows it.placed ∙ none));
            fact = λ _. was.fact live;
          }

  pub index_is : (sql : List ℕ) (at : ℕ) (table : Table) (index : Index) (later : Schema) → AddsIndex schema sql at table index later
      → IsMaking sql [] (IsBuilt Fact rows schema) (IsBuilt Fact rows later)
  index_is sql at table index later it = record {
    begun = λ s was. was.begun;
    makes = λ old new count was limit h. subst (λ k. IsBuilt Fact rows k new) it.later_is (made old new count was limit h);
    free = λ old new e was. index_free schema sql at table index it.creates it.sure old new e was.schema_is (unique_in old was);
  }
    where
      made : (old new : State) (count : ℕ) → IsBuilt Fact rows schema old → new.step_limit ≡ old.step_limit → ExecutesInside 0 sql [] old new (Ok count)
          → IsBuilt Fact rows (indexed schema table index) new
      made old new count was limit h =
          let live = h.1.was_open in
          let done = creates_index schema sql at table index it.creates old new count (was.schema_is live) h.0 in
          record {
            begun = h.1.mode;
            unlimited = limit ∙ was.unlimited;
            schema_is = λ _. done.schema_is;
            sound = λ _. done.sound;
            rows_are = λ _. still_rows schema.tables rows old.now.trees new.now.trees (was.rows_are live) done.rows;
            fact = λ _. was.fact live;
          }

-- ---- how a transaction begins

-- a transaction that begins over a database with no table, no index and no view
pub blank_begun : {S : Type 0} (g : Ghosts S) (old : Held S) → (state g old).now.schema ≡ no_tables → IsLive (state g old) → old.step_limit ≡ None → IsBlank (state g (record old { in_transaction = true }))
blank_begun g old blank live unlimited = record { begun = refl; unlimited = unlimited; schema = λ _. blank; sound = λ o. (live o).0 }
