-- When a statement is refused for memory, the disk or its size alone.
use Rattle.std.proofs.Common.{◌≡◌, inl, inr, ℕ, ℤ, List, [], ◌∷◌, drop, filter, Bool, true, false, not, ◌&&◌, length, nat_lt, None, Err, IsTrue, refl, sym, ap, ◌∙◌, true≢false}
use Rattle.std.specs.List.{list_all}
use Rattle.sqlite.specs.Order.{Row}
use Rattle.sqlite.specs.Term.{Term, col, eval_all}
use Rattle.sqlite.specs.Table.{Table}
use Rattle.sqlite.specs.Schema.{Schema}
use Rattle.sqlite.specs.Tree.{Trees, put_row, rowid}
use Rattle.sqlite.specs.View.{is_int}
use Rattle.sqlite.specs.Cast.{cast_row}
use Rattle.sqlite.specs.Edit.{IsRefused, is_taken, edit_of, without_all}
use Rattle.sqlite.specs.Rowids.TheVariants.{Given}
use Rattle.sqlite.specs.Command.TheVariants.{Insert, Delete, Update}
use Rattle.sqlite.specs.Source.TheVariants.{Values}
use Rattle.sqlite.specs.State.{State, ExecutesInside}
use Rattle.sqlite.specs.declared.error.Error.{Error}
use Rattle.sqlite.specs.Effect.{edit_error}
use Rattle.sqlite_schema.specs.declared.schema.Index.{Index}
use Rattle.sqlite_schema.specs.declared.schema.Constraint.TheVariants.{Datatype, NotNull, Check, PrimaryKey, Unique, ForeignKey}
use Rattle.sqlite_schema.specs.declared.schema.Keys.TheVariants.{Enforced}
use Rattle.sqlite_schema.specs.Rules.{Keeps, references_fit, passes}
use Rattle.sqlite_rules.specs.Lists.{Has}
use Rattle.sqlite_rules.specs.Calls.{ids_of}
use Rattle.sqlite_rules.specs.Keys.{are_unique}
use Rattle.sqlite_rules.specs.declared.error.Refusal.{Refusal}
use Rattle.sqlite_rules.specs.declared.error.Refusal.TheVariants.{Violates, Mismatch, NoRowid, BadReference, TooDeep}
use Rattle.sqlite_trees.specs.Tree.{with_tree, IsAscending}
use Rattle.sqlite_typing.specs.Types.{accepts_terms, accepts_program}
use Rattle.base_faults.specs.declared.store_fault.StoreFault.TheVariants.{Memory}
use Rattle.table_forms.specs.Faults.{fault_of, IsFaultOf}
use Rattle.table_forms.specs.Forms.{inserted, query_of, passes as is_hit}
use Rattle.table_forms.proofs.InsertLemmas.{InsertsRow}
use Rattle.table_forms.proofs.DeleteLemmas.{DeletesRows}
use Rattle.table_forms.proofs.ErrorLemmas.{IsCallOf, HasNoReferences, insert_errors}
use Rattle.table_forms.proofs.DeleteErrors.{delete_errors, rowids_of}
use Rattle.table_forms.proofs.FailLemmas.{unless_refused}
use Rattle.table_forms.proofs.FaultLemmas.{memory_fault}
use Rattle.table_forms.proofs.UniqueLemmas.{unique_more, unique_less, unique_changed}
use Rattle.table_forms.proofs.UpdateErrors.{update_errors}
use Rattle.table_forms.proofs.UpdateLemmas.{UpdatesRows, updating, update_edit}

-- a table of a schema in which no table has the tree of another, and none declares a reference
pub record IsPlainTable (schema : Schema) (table : Table) : Type 0 where
  pub apart : IsAscending (λ a b. a.tree ≡ b.tree → ⊥) schema.tables
  pub listed : Has schema.tables table
  pub refers : (adds removes : Bool) → references_fit schema table adds removes ≡ true
  pub none : HasNoReferences schema

never : {X : Type 0} (p : X → Bool) (xs : List X) → list_all (λ x. not (p x && false)) xs ≡ true
never p [] = refl
never p (x ∷ xs) = go (p x) (never p xs)
  where
    go : (b : Bool) → list_all (λ y. not (p y && false)) xs ≡ true → (not (b && false) && list_all (λ y. not (p y && false)) xs) ≡ true
    go true h = h
    go false h = h

-- no row that is added clashes, where none is
none_clash : (indexes : List Index) (db : Trees) (table : Table) → are_unique indexes db table [] ≡ true
none_clash indexes db table = never _ indexes

-- ---- rows are removed

module _ (schema : Schema) (table : Table) (plain : IsPlainTable schema table) (db : Trees) (unique : Keeps Unique schema db) (ids : List ℤ) where
  removal_free : (why : Refusal) → IsRefused schema Enforced db (edit_of db table ids Given 0 []) why → fault_of (edit_error why) ≡ Memory
  removal_free (Violates Datatype) h = absurd (true≢false h)
  removal_free (Violates NotNull) h = absurd (true≢false h)
  removal_free (Violates Check) h = absurd (true≢false h)
  removal_free (Violates PrimaryKey) h = absurd (true≢false h)
  removal_free (Violates Unique) h = absurd (h (unique_less schema db table plain.apart plain.listed unique ids (none_clash schema.indexes (with_tree db table.tree (without_all (db table.tree) ids)) table)))
  removal_free (Violates ForeignKey) h = absurd h
  removal_free Mismatch h = absurd (true≢false h)
  removal_free NoRowid h = refl
  removal_free BadReference h = absurd (true≢false (sym (plain.refers false (nat_lt 0 (length ids))) ∙ h))
  removal_free TooDeep h = absurd h

-- a DELETE over unique keys is never refused for what the tables hold
pub delete_free : (schema : Schema) (sql : List ℕ) (at : ℕ) (table : Table) (tests : List Term) → DeletesRows schema sql at table tests → IsPlainTable schema table
    → (params : Row) → IsCallOf schema sql params (Delete at (rowids_of table.tree tests)) → accepts_program schema [] (query_of table.tree tests (col 1 0 ∷ []) []) params ≡ true
    → (old new : State) (e : Error) → old.step_limit ≡ None → (IsTrue old.is_open → old.now.schema ≡ schema) → (IsTrue old.is_open → Keeps Unique schema old.now.trees)
    → ExecutesInside 0 sql params old new (Err e) → IsFaultOf old new (fault_of e)
delete_free schema sql at table tests it plain params call typed old new e limit has unique =
    unless_refused old new sql params e (λ live h.
    elim (delete_errors schema sql at table tests it plain.none old new params e call (has live) limit typed h) [
      | inl store ↦ store
      | inr refused ↦ memory_fault old new (fault_of e) (ap fault_of refused.3 ∙ removal_free schema table plain old.now.trees (unique live) refused.0 refused.1 refused.2)
    ])

-- ---- a row is added

-- the row keeps the rules of its own table, all but that of unique keys
pub record IsGoodRow (schema : Schema) (table : Table) (row : Row) : Type 0 where
  pub datatype : (db : Trees) → list_all (passes Datatype schema db table) (row ∷ []) ≡ true
  pub not_null : (db : Trees) → list_all (passes NotNull schema db table) (row ∷ []) ≡ true
  pub check : (db : Trees) → list_all (passes Check schema db table) (row ∷ []) ≡ true
  pub keyed : is_int (rowid row) ≡ true

module _ (schema : Schema) (table : Table) (plain : IsPlainTable schema table) (db : Trees) (unique : Keeps Unique schema db) (row : Row) (good : IsGoodRow schema table row)
    (untaken : is_taken (db table.tree) row ≡ false) (apart : are_unique schema.indexes (with_tree db table.tree (put_row row (db table.tree))) table (row ∷ []) ≡ true) where
  adding_free : (why : Refusal) → IsRefused schema Enforced db (record { table = table; gone = []; news = row ∷ [] }) why → fault_of (edit_error why) ≡ Memory
  adding_free (Violates Datatype) h = absurd (true≢false (sym (good.datatype db) ∙ h))
  adding_free (Violates NotNull) h = absurd (true≢false (sym (good.not_null db) ∙ h))
  adding_free (Violates Check) h = absurd (true≢false (sym (good.check db) ∙ h))
  adding_free (Violates PrimaryKey) h = absurd (let x = rw untaken at h in cc)
  adding_free (Violates Unique) h = absurd (h (unique_more schema db table plain.apart plain.listed unique row untaken apart))
  adding_free (Violates ForeignKey) h = absurd h
  adding_free Mismatch h = absurd (let x = rw good.keyed at h in cc)
  adding_free NoRowid h = refl
  adding_free BadReference h = absurd (true≢false (sym (plain.refers true false) ∙ h))
  adding_free TooDeep h = absurd h

-- an INSERT of a good row, whose keys no row has, is never refused for what the tables hold
pub insert_free : (schema : Schema) (sql : List ℕ) (at : ℕ) (table : Table) (terms : List Term) → InsertsRow schema sql at table terms → IsPlainTable schema table
    → (params : Row) → IsCallOf schema sql params (Insert at (Values terms (length terms))) → accepts_terms terms params ≡ true
    → (old new : State) (e : Error) → old.step_limit ≡ None → (IsTrue old.is_open → old.now.schema ≡ schema) → (IsTrue old.is_open → Keeps Unique schema old.now.trees)
    → (IsTrue old.is_open → IsGoodRow schema table (inserted table (old.now.trees table.tree) terms params))
    → (IsTrue old.is_open → is_taken (old.now.trees table.tree) (inserted table (old.now.trees table.tree) terms params) ≡ false)
    → (IsTrue old.is_open → are_unique schema.indexes (with_tree old.now.trees table.tree (put_row (inserted table (old.now.trees table.tree) terms params) (old.now.trees table.tree))) table (inserted table (old.now.trees table.tree) terms params ∷ []) ≡ true)
    → ExecutesInside 0 sql params old new (Err e) → IsFaultOf old new (fault_of e)
insert_free schema sql at table terms it plain params call typed old new e limit has unique good untaken apart =
    unless_refused old new sql params e (λ live h.
    elim (insert_errors schema sql at table terms it plain.none old new params e call (has live) limit typed h) [
      | inl store ↦ store
      | inr refused ↦ memory_fault old new (fault_of e) (ap fault_of refused.2 ∙ adding_free schema table plain old.now.trees (unique live) (inserted table (old.now.trees table.tree) terms params) (good live) (untaken live) (apart live) refused.0 refused.1)
    ])

-- ---- a row gets other cells

-- the row that comes of the terms' cells, which begin with the rowid that it had
abbrev pub changed_row : Table → Row → Row
changed_row table cells = cast_row table (drop 1 cells)

-- the rows that are left beside it
abbrev pub left_rows : Trees → Table → Row → List Row
left_rows db table cells = without_all (db table.tree) (ids_of (cells ∷ []))

-- one row passes, and what comes of it is good, under a rowid and keys that no other row has
pub record ChangesWell (schema : Schema) (table : Table) (tests terms : List Term) (params : Row) (db : Trees) : Type 0 where
  pub row : Row
  pub one : filter (is_hit tests params) (db table.tree) ≡ row ∷ []
  pub good : IsGoodRow schema table (changed_row table (eval_all terms (params ∷ row ∷ [])))
  pub untaken : is_taken (left_rows db table (eval_all terms (params ∷ row ∷ []))) (changed_row table (eval_all terms (params ∷ row ∷ []))) ≡ false
  pub apart :
      let cells = eval_all terms (params ∷ row ∷ []) in
      are_unique schema.indexes (with_tree db table.tree (put_row (changed_row table cells) (left_rows db table cells))) table (changed_row table cells ∷ []) ≡ true

module _ (schema : Schema) (table : Table) (plain : IsPlainTable schema table) (db : Trees) (unique : Keeps Unique schema db) (cells : Row) (good : IsGoodRow schema table (changed_row table cells))
    (untaken : is_taken (left_rows db table cells) (changed_row table cells) ≡ false)
    (apart : are_unique schema.indexes (with_tree db table.tree (put_row (changed_row table cells) (left_rows db table cells))) table (changed_row table cells ∷ []) ≡ true) where
  changing_free : (why : Refusal) → IsRefused schema Enforced db (update_edit db table cells) why → fault_of (edit_error why) ≡ Memory
  changing_free (Violates Datatype) h = absurd (true≢false (sym (good.datatype db) ∙ h))
  changing_free (Violates NotNull) h = absurd (true≢false (sym (good.not_null db) ∙ h))
  changing_free (Violates Check) h = absurd (true≢false (sym (good.check db) ∙ h))
  changing_free (Violates PrimaryKey) h = absurd (let x = rw untaken at h in cc)
  changing_free (Violates Unique) h = absurd (h (unique_changed schema db table plain.apart plain.listed unique (ids_of (cells ∷ [])) (changed_row table cells) untaken apart))
  changing_free (Violates ForeignKey) h = absurd h
  changing_free Mismatch h = absurd (let x = rw good.keyed at h in cc)
  changing_free NoRowid h = refl
  changing_free BadReference h = absurd (true≢false (sym (plain.refers true true) ∙ h))
  changing_free TooDeep h = absurd h

-- an UPDATE of one row to a good one, whose keys no other row has, is never refused for what the
-- tables hold
pub update_free : (schema : Schema) (sql : List ℕ) (at : ℕ) (table : Table) (tests terms : List Term) → UpdatesRows schema sql at table tests terms → IsPlainTable schema table
    → (params : Row) → IsCallOf schema sql params (Update at (updating table tests terms)) → accepts_program schema [] (query_of table.tree tests terms []) params ≡ true
    → (old new : State) (e : Error) → old.step_limit ≡ None → (IsTrue old.is_open → old.now.schema ≡ schema) → (IsTrue old.is_open → Keeps Unique schema old.now.trees)
    → (IsTrue old.is_open → ChangesWell schema table tests terms params old.now.trees) → ExecutesInside 0 sql params old new (Err e) → IsFaultOf old new (fault_of e)
update_free schema sql at table tests terms it plain params call typed old new e limit has unique well =
    unless_refused old new sql params e (λ live h.
    let w = well live in
    elim (update_errors schema sql at table tests terms it plain.none old new params w.row e call (has live) limit w.one typed h) [
      | inl store ↦ store
      | inr refused ↦ memory_fault old new (fault_of e) (ap fault_of refused.2 ∙ changing_free schema table plain old.now.trees (unique live) (eval_all terms (params ∷ w.row ∷ [])) w.good w.untaken w.apart refused.0 refused.1)
    ])
