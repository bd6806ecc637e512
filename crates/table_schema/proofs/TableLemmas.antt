-- One table of a desk, whatever its rows are: what a statement that adds a row or leaves rows out
-- makes of all that the tables say.
use Rattle.table_schema.proofs.Imports.{◌≡◌, ℕ, ℤ, pos, ◌<◌, ◌/◌, List, [], ◌∷◌, ◌++◌, length, map, filter, Bool, true, false, not, ◌&&◌, eqb, if◌then◌else◌, slice_get, Some, Ok, Err, IsTrue, refl, sym, ap, subst, ◌∙◌, eq-eqb, AllByRecursion, list_any, list_all, Insert, Delete, next_rowid, is_taken, value_rows, Row, State, ExecutesInside, Table, Term, col, eval_all, Trees, IsTable, put_row, rowid, Error, Int, agree, clashes, guards, Index, with_tree, IsAscending, accepts_terms, accepts_program, IsFaultOf, fault_of, Changes, inserted, passes, query_of, AreRows, InsertsRow, IsInserted, inserts, DeletesRows, deletes, IsCallOf, IsPlainTable, IsGoodRow, insert_free, delete_free, rows_more, rows_less, same_number, Content, edited, placed, IsFree, Edit, desk_schema, content_of, AreShown, IsInside, seen}
use Rattle.sqlite.specs.Rowids.TheVariants.{Chosen}
use Rattle.sqlite.specs.Source.TheVariants.{Values}
use Rattle.sqlite_rules.proofs.PlaceLemmas.{next_is_free}
use Rattle.sqlite_rules.specs.Action.{works}
use Rattle.sqlite_rules.specs.Keys.{are_unique}
use Rattle.sqlite_schema.specs.declared.schema.Keys.TheVariants.{Enforced}
use Rattle.table_forms.proofs.DeleteErrors.{rowids_of}
use Rattle.table_forms.proofs.UniqueLemmas.{put_apart}
use Rattle.table_schema.proofs.ContentLemmas.{remade, good_back}
use Rattle.table_schema.proofs.PlacedLemmas.{untaken, numbers_rise, rows_placed}
use Rattle.table_schema.proofs.SchemaLemmas.{unique_at}
use Rattle.table_schema.proofs.StatementLemmas.{Makes, IsWrite}

at_tree : (db : Trees) (t : ℕ) (rows : List Row) → with_tree db t rows t ≡ rows
at_tree db t rows = ap (λ b. if b then rows else db t) (eq-eqb t t refl)

-- the rows of a table: their cells, and the row that cells are read as
pub record RowType (T : Type 0) : Type 1 where
  pub cells : T → Row
  pub back : Row → T
  pub IsGood : T → Type 0
  pub same : (x : T) → IsGood x → back (cells x) ≡ x

-- the table in the schema, with no rule that a statement sets off
pub record Place : Type 0 where
  pub at : ℕ
  pub table : Table
  pub is_plain : IsPlainTable desk_schema table
  pub found : slice_get desk_schema.tables at ≡ Some table
  pub bare : (table.is_counted ≡ false) × (table.stamps.terms ≡ [])
  pub still : (olds news : List Row) → works desk_schema Enforced 0 table.tree olds news ≡ []

pub record DeskTable (T : Type 0) : Type 1 where
  pub row : RowType T
  pub place : Place
  -- the content, with what these rows say in its place
  pub says : List T → Content → Content
  pub part : (db : Trees) → content_of db ≡ says (map row.back (db place.table.tree)) (content_of db)
  pub rest : (db : Trees) (rows : List Row) → content_of (with_tree db place.table.tree rows) ≡ says (map row.back rows) (content_of db)
  pub typed : (db : Trees) → AreShown db → AreRows row.cells row.IsGood (db place.table.tree)
  pub shown : (db : Trees) (rows : List Row) → AreShown db → AreRows row.cells row.IsGood rows → AreShown (with_tree db place.table.tree rows)

module _ {T : Type 0} (t : DeskTable T) where
  are_back : (rows : List Row) (are : AreRows t.row.cells t.row.IsGood rows) → map t.row.back rows ≡ are.items
  are_back rows are = ap (map t.row.back) are.are ∙ good_back t.row.cells t.row.back t.row.IsGood t.row.same are.items are.good

  -- what the tables say, with this table's part as its typed rows say it
  pub seen_is : (s : State) (shown : AreShown s.now.trees) → seen s ≡ t.says (t.typed s.now.trees shown).items (seen s)
  seen_is s shown = t.part s.now.trees ∙ ap (λ xs. t.says xs (seen s)) (are_back (s.now.trees t.place.table.tree) (t.typed s.now.trees shown))

  -- the table has other rows
  pub makes_rows : (old new : State) (rows : List Row) → Changes desk_schema old.now new.now t.place.table.tree rows → (shown : AreShown old.now.trees) (are : AreRows t.row.cells t.row.IsGood rows) (after : Content → Content)
      → ((c : Content) → t.says are.items c ≡ after (t.says (t.typed old.now.trees shown).items c)) → Makes old new after
  makes_rows old new rows it shown are after same =
      remade old new t.place.table.tree rows it (t.shown old.now.trees rows shown are) after
      (t.rest old.now.trees rows ∙ ap (λ xs. t.says xs (seen old)) (are_back rows are) ∙ same (seen old) ∙ ap after (sym (seen_is old shown)))

-- ---- rows are left out

module _ {T : Type 0} (t : DeskTable T) (sql : List ℕ) (params : Row) (tests : List Term) (e : Edit) where
  -- what is to be known of a DELETE
  pub record Clears : Type 0 where
    pub call : IsCallOf desk_schema sql params (Delete t.place.at (rowids_of t.place.table.tree tests))
    pub typed : accepts_program desk_schema [] (query_of t.place.table.tree tests (col 1 0 ∷ []) []) params ≡ true
    -- the rows that go
    pub is_hit : T → Bool
    pub hits : (x : T) → passes tests params (t.row.cells x) ≡ is_hit x
    pub less : (xs : List T) (c : Content) → t.says (filter (λ x. not (is_hit x)) xs) c ≡ edited e (t.says xs c)

  deletes_rows : Clears → DeletesRows desk_schema sql t.place.at t.place.table tests
  deletes_rows it = record { command = it.call.command_is; plain = it.call.plain; found = t.place.found; still = λ olds. t.place.still olds [] }

  pub clears : Clears → IsWrite sql params (IsFree e) (edited e)
  clears it = record {
    makes = λ old new count inside h.
        let shown = inside.shown h.1.was_open in
        let rows = old.now.trees t.place.table.tree in
        let are = t.typed old.now.trees shown in
        let left = deletes desk_schema sql t.place.at t.place.table tests (deletes_rows it) old new params count (inside.schema h.1.was_open) are.up are.keyed h.0 in
        makes_rows t old new _ left shown (rows_less t.row.cells t.row.IsGood rows (λ r. not (passes tests params r)) (λ x. not (it.is_hit x)) (λ x. ap not (it.hits x)) are) (edited e) (it.less are.items);
    free = λ old new why inside _.
        delete_free desk_schema sql t.place.at t.place.table tests (deletes_rows it) t.place.is_plain params it.call it.typed old new why inside.unlimited inside.schema (unique_at old inside);
  }

-- ---- a row is added

module _ {T : Type 0} (t : DeskTable T) (sql : List ℕ) (params : Row) (terms : List Term) where
  -- what is to be known of the text of an INSERT
  pub record Inserts : Type 0 where
    pub call : IsCallOf desk_schema sql params (Insert t.place.at (Values terms (length terms)))
    pub typed : accepts_terms terms params ≡ true
    pub one : (row : Row) → value_rows row (length terms) (length terms / length terms) terms ≡ eval_all terms (row ∷ []) ∷ []

  inserts_row : Inserts → InsertsRow desk_schema sql t.place.at t.place.table terms
  inserts_row it = record {
    command = it.call.command_is;
    plain = it.call.plain;
    found = t.place.found;
    uncounted = t.place.bare.0;
    unstamped = t.place.bare.1;
    one = it.one;
    still = λ row. t.place.still [] (row ∷ []);
  }

  puts : (old new : State) (count : ℕ) → IsInside old → Inserts → (cells : Row) → inserted t.place.table (old.now.trees t.place.table.tree) terms params ≡ cells → ExecutesInside 0 sql params old new (Ok count)
      → IsInserted desk_schema old.now new.now t.place.table.tree cells
  puts old new count inside it cells is h = subst (IsInserted desk_schema old.now new.now t.place.table.tree) is
      (inserts desk_schema sql t.place.at t.place.table terms (inserts_row it) old new params count (inside.schema h.1.was_open) h.0)

  free_of : (old new : State) (why : Error) → IsInside old → Inserts → (cells : Row) → inserted t.place.table (old.now.trees t.place.table.tree) terms params ≡ cells → IsGoodRow desk_schema t.place.table cells
      → (IsTrue old.is_open → is_taken (old.now.trees t.place.table.tree) cells ≡ false)
      → (IsTrue old.is_open → are_unique desk_schema.indexes (with_tree old.now.trees t.place.table.tree (put_row cells (old.now.trees t.place.table.tree))) t.place.table (cells ∷ []) ≡ true)
      → ExecutesInside 0 sql params old new (Err why) → IsFaultOf old new (fault_of why)
  free_of old new why inside it cells is kept fresh apart =
      let rows = old.now.trees t.place.table.tree in
      insert_free desk_schema sql t.place.at t.place.table terms (inserts_row it) t.place.is_plain params it.call it.typed old new why inside.unlimited inside.schema (unique_at old inside)
      (λ live. subst (IsGoodRow desk_schema t.place.table) (sym is) kept)
      (λ live. subst (λ row. is_taken rows row ≡ false) (sym is) (fresh live))
      (λ live. subst (λ row. are_unique desk_schema.indexes (with_tree old.now.trees t.place.table.tree (put_row row rows)) t.place.table (row ∷ []) ≡ true) (sym is) (apart live))

-- a table with a key of several columns beside the rowid, by which its rows are unique
pub record KeyedTable (T : Type 0) : Type 1 where
  pub base : DeskTable T
  pub id : (x : T) → (id : ℤ) × (rowid (base.row.cells x) ≡ Int id)
  pub key : Index
  -- whether two rows have one key
  pub alike : T → T → Bool
  pub agrees : (x y : T) → agree key.order key.columns (base.row.cells x) key.columns (base.row.cells y) ≡ alike x y
  pub only : (p : Index → Bool) → list_all (λ i. not (guards i base.place.table && p i)) desk_schema.indexes ≡ (not (p key) && true)

module _ {T : Type 0} (k : KeyedTable T) (sql : List ℕ) (params : Row) (terms : List Term) (e : Edit) where
  abbrev t : DeskTable T
  t = k.base

  -- what is to be known of an INSERT under the next rowid
  pub record Adds : Type 0 where
    pub text : Inserts t sql params terms
    -- the row that comes
    pub new : ℤ → T
    pub own : (id : ℤ) → rowid (t.row.cells (new id)) ≡ Int id
    pub is : (rows : List Row) → inserted t.place.table rows terms params ≡ t.row.cells (new (next_rowid rows))
    pub good : (id : ℤ) → t.row.IsGood (new id)
    pub kept : (id : ℤ) → IsGoodRow desk_schema t.place.table (t.row.cells (new id))
    pub more : (xs : List T) (id : ℤ) (c : Content) → t.says (xs ++ new id ∷ []) c ≡ edited e (t.says xs c)
    pub none : (xs : List T) (id : ℤ) (c : Content) → IsFree e (t.says xs c) → AllByRecursion (λ x. k.alike x (new id) ≡ false) xs

  unique : (db : Trees) (row : Row) → clashes k.key.order k.key.columns (db t.place.table.tree) row ≡ false → are_unique desk_schema.indexes db t.place.table (row ∷ []) ≡ true
  unique db row free = k.only (λ i. list_any (clashes i.order i.columns (db t.place.table.tree)) (row ∷ [])) ∙ rw free refl

  unlike : (y : T) (xs : List T) → AllByRecursion (λ x. k.alike x y ≡ false) xs → list_any (λ r. agree k.key.order k.key.columns r k.key.columns (t.row.cells y)) (map t.row.cells xs) ≡ false
  unlike y [] h = refl
  unlike y (x ∷ xs) h = rw (k.agrees x y, h.0) (unlike y xs h.1)

  pub adds : Adds → IsWrite sql params (IsFree e) (edited e)
  adds it = record { makes = makes; free = free }
    where
      makes : (old new : State) (count : ℕ) → IsInside old → ExecutesInside 0 sql params old new (Ok count) → Makes old new (edited e)
      makes old new count inside h =
          let shown = inside.shown h.1.was_open in
          let rows = old.now.trees t.place.table.tree in
          let are = t.typed old.now.trees shown in
          let id = next_rowid rows in
          let put = (puts t sql params terms old new count inside it.text (t.row.cells (it.new id)) (it.is rows) h).changes in
          makes_rows t old new _ put shown (rows_more t.row.cells t.row.IsGood rows (it.new id) (it.own id) (it.good id) are) (edited e) (it.more are.items id)

      free : (old new : State) (why : Error) → IsInside old → (IsTrue old.is_open → IsFree e (seen old)) → ExecutesInside 0 sql params old new (Err why) → IsFaultOf old new (fault_of why)
      free old new why inside none_there =
          let rows = old.now.trees t.place.table.tree in
          let id = next_rowid rows in
          let x = t.row.cells (it.new id) in
          let are = λ (live : IsTrue old.is_open). t.typed old.now.trees (inside.shown live) in
          let apart : (live : IsTrue old.is_open) → list_any (λ r. agree k.key.order k.key.columns r k.key.columns x) rows ≡ false =
          λ live. subst (λ rs. list_any (λ r. agree k.key.order k.key.columns r k.key.columns x) rs ≡ false) (sym (are live).are)
          (unlike (it.new id) (are live).items (it.none (are live).items id (seen old) (subst (IsFree e) (seen_is t old (inside.shown live)) (none_there live)))) in
          free_of t sql params terms old new why inside it.text x (it.is rows) (it.kept id)
          (λ live. subst (λ v. is_taken rows (v ∷ []) ≡ false) (sym (it.own id)) (next_is_free Chosen rows [] (are live).up (are live).keyed))
          (λ live. unique (with_tree old.now.trees t.place.table.tree (put_row x rows)) x
          (subst (λ rs. clashes k.key.order k.key.columns rs x ≡ false) (sym (at_tree old.now.trees t.place.table.tree (put_row x rows))) (put_apart k.key.order k.key.columns rows x id (it.own id) (apart live))))

-- a table whose rowid is its key
module _ {T : Type 0} (t : DeskTable T) (number : T → ℕ) (ids : (x : T) → rowid (t.row.cells x) ≡ Int (pos (number x))) where
  -- the numbers of its rows rise
  pub rises : (s : State) (all : AreShown s.now.trees) → IsAscending (λ a b. number a < number b) (t.typed s.now.trees all).items
  rises s all = let are = t.typed s.now.trees all in numbers_rise t.row.cells number ids are.items (subst IsTable are.are are.up)

  pub record AddsNumbered (sql : List ℕ) (params : Row) (terms : List Term) (e : Edit) : Type 0 where
    pub text : Inserts t sql params terms
    pub new : T
    pub is : (rows : List Row) → inserted t.place.table rows terms params ≡ t.row.cells new
    pub good : t.row.IsGood new
    pub kept : IsGoodRow desk_schema t.place.table (t.row.cells new)
    pub more : (xs : List T) (c : Content) → IsAscending (λ a b. number a < number b) xs → AllByRecursion (λ x. eqb (number x) (number new) ≡ false) xs
        → t.says (placed number xs new) c ≡ edited e (t.says xs c)
    pub none : (xs : List T) (c : Content) → IsFree e (t.says xs c) → AllByRecursion (λ x. eqb (number x) (number new) ≡ false) xs
    pub unkeyed : (db : Trees) → are_unique desk_schema.indexes db t.place.table (t.row.cells new ∷ []) ≡ true

  untaken_in : (xs : List T) (y : T) → AllByRecursion (λ x. eqb (number x) (number y) ≡ false) xs → is_taken (map t.row.cells xs) (t.row.cells y) ≡ false
  untaken_in [] y apart = refl
  untaken_in (x ∷ xs) y apart = rw (ids x, ids y, same_number (number x) (number y), apart.0) (untaken_in xs y apart.1)

  pub adds_numbered : (sql : List ℕ) (params : Row) (terms : List Term) (e : Edit) → AddsNumbered sql params terms e → IsWrite sql params (IsFree e) (edited e)
  adds_numbered sql params terms e it = record { makes = makes; free = free }
    where
      makes : (old new : State) (count : ℕ) → IsInside old → ExecutesInside 0 sql params old new (Ok count) → Makes old new (edited e)
      makes old new count inside h =
          let shown = inside.shown h.1.was_open in
          let rows = old.now.trees t.place.table.tree in
          let are = t.typed old.now.trees shown in
          let x = it.new in
          let put = puts t sql params terms old new count inside it.text (t.row.cells x) (it.is rows) h in
          let apart = untaken t.row.cells number ids are.items x (subst (λ rs. is_taken rs (t.row.cells x) ≡ false) are.are put.fresh) in
          let up = rises old shown in
          makes_rows t old new _ put.changes shown (rows_placed t.row.cells t.row.IsGood number ids rows x put.fresh it.good are) (edited e) (λ c. it.more are.items c up apart)

      free : (old new : State) (why : Error) → IsInside old → (IsTrue old.is_open → IsFree e (seen old)) → ExecutesInside 0 sql params old new (Err why) → IsFaultOf old new (fault_of why)
      free old new why inside none_there =
          let rows = old.now.trees t.place.table.tree in
          let x = t.row.cells it.new in
          let are = λ (live : IsTrue old.is_open). t.typed old.now.trees (inside.shown live) in
          free_of t sql params terms old new why inside it.text x (it.is rows) it.kept
          (λ live. subst (λ rs. is_taken rs x ≡ false) (sym (are live).are)
          (untaken_in (are live).items it.new (it.none (are live).items (seen old) (subst (IsFree e) (seen_is t old (inside.shown live)) (none_there live)))))
          (λ live. it.unkeyed (with_tree old.now.trees t.place.table.tree (put_row x rows)))
