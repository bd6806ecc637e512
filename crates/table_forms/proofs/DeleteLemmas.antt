-- A DELETE of the rows that pass tests.
use Rattle.std.proofs.Common.{◌≡◌, Ordering, Less, Equal, Greater, inl, inr, ℕ, ℤ, List, [], ◌∷◌, filter, map, slice_get, Bool, true, false, not, cond, ◌||◌, Some, None, Ok, refl, sym, ap, subst, ◌∙◌}
use Rattle.std.specs.List.{list_any, AllByRecursion}
use Rattle.std.specs.Ordering.{is_eq}
use Rattle.std.specs.List.Sorted.{IsPermutation}
use Rattle.std.proofs.lemmas.List.Sorted.{IsPermutation-map, list_any-IsPermutation}
use Rattle.std.proofs.lemmas.Bool.{false_from_ne_true}
use Rattle.sqlite.specs.declared.types.Value.TheVariants.{Int}
use Rattle.sqlite.specs.Order.{Row, value_cmp}
use Rattle.sqlite.specs.Term.{Term, col}
use Rattle.sqlite.specs.Table.{Table}
use Rattle.sqlite.specs.Schema.{Schema}
use Rattle.sqlite.specs.Tree.{Trees, IsTable, rowid, has_rowid, without_rowid}
use Rattle.sqlite.specs.View.{is_int}
use Rattle.sqlite.specs.Command.TheVariants.{Delete}
use Rattle.sqlite.specs.Edit.{id_in, Edit, edit_of, without_all}
use Rattle.sqlite.specs.Rowids.TheVariants.{Given}
use Rattle.sqlite_rules.specs.Action.{works, Writes}
use Rattle.sqlite_rules.specs.Calls.{ids_of}
use Rattle.sqlite_rules.specs.Lists.{Has}
use Rattle.sqlite_rules.proofs.ListLemmas.{has_filtered, has_kept, some_has, some_from, all_has}
use Rattle.sqlite_rules.proofs.ProbeLemmas.{mapped_has, has_mapped}
use Rattle.sqlite_rules.proofs.TableLemmas.{int_is}
use Rattle.sqlite_rules.proofs.PlaceLemmas.{tied_same}
use Rattle.sqlite_value.proofs.OrderLemmas.{value_cmp_total}
use Rattle.std.proofs.lemmas.Cmp.{tied_itself}
use Rattle.sqlite_schema.specs.declared.schema.Keys.TheVariants.{Enforced}
use Rattle.sqlite_schema.specs.declared.program.Program.{Program}
use Rattle.sqlite.specs.Effect.{Database, Answers}
use Rattle.sqlite.specs.Does.{Does, Concludes, AtPlace, OnRows, WritesRows}
use Rattle.sqlite.specs.Rows.{Written, Task, Deletes}
use Rattle.sqlite.specs.Listing.{understood}
use Rattle.sqlite.specs.State.{State, mode_of, Executes}
use Rattle.sqlite.proofs.Callers.{IsPlain, command_of, statement_of, runs_as, one_step, through}
use Rattle.table_forms.specs.Forms.{Changes, query_of, passes}
use Rattle.table_forms.proofs.QueryLemmas.{finds, found, map_map}
use Rattle.table_forms.proofs.InsertLemmas.{same_value, concludes}

-- ---- lists

filter_same : {X : Type 0} (p q : X → Bool) (xs : List X) → ((x : X) → Has xs x → p x ≡ q x) → filter p xs ≡ filter q xs
filter_same p q [] h = refl
filter_same p q (x ∷ xs) h = rw (h x (inl refl), filter_same p q xs (λ y there. h y (inr there))) refl

filter_twice : {X : Type 0} (p q : X → Bool) (xs : List X) → filter (λ x. not (p x)) (filter (λ x. not (q x)) xs) ≡ filter (λ x. not (q x || p x)) xs
filter_twice p q [] = refl
filter_twice p q (x ∷ xs) =
    elim (q x) as (λ b. filter (λ y. not (p y)) (cond (not b) (x ∷ filter (λ y. not (q y)) xs) (filter (λ y. not (q y)) xs)) ≡ cond (not (b || p x)) (x ∷ filter (λ y. not (q y || p y)) xs) (filter (λ y. not (q y || p y)) xs))
    [ true ↦ filter_twice p q xs | false ↦ elim (p x) as (λ c. cond (not c) (x ∷ filter (λ y. not (p y)) (filter (λ y. not (q y)) xs)) (filter (λ y. not (p y)) (filter (λ y. not (q y)) xs)) ≡ cond (not c) (x ∷ filter (λ y. not (q y || p y)) xs) (filter (λ y. not (q y || p y)) xs)) [ true ↦ filter_twice p q xs | false ↦ ap (λ ys. x ∷ ys) (filter_twice p q xs) ] ]

filter_all : {X : Type 0} (xs : List X) → filter (λ _. true) xs ≡ xs
filter_all [] = refl
filter_all (x ∷ xs) = ap (λ ys. x ∷ ys) (filter_all xs)

without_filter : (ids : List ℤ) (rows : List Row) → without_all rows ids ≡ filter (λ r. not (list_any (λ id. has_rowid id r) ids)) rows
without_filter [] rows = sym (filter_all rows)
without_filter (id ∷ ids) rows = without_filter ids (without_rowid id rows) ∙ filter_twice (λ r. list_any (λ i. has_rowid i r) ids) (has_rowid id) rows

-- ---- rows with rowids

abbrev pub HaveIds : List Row → Type 0
HaveIds rows = AllByRecursion (λ r. is_int (rowid r) ≡ true) rows

eq_is : (o : Ordering) → is_eq o ≡ true → o ≡ Equal
eq_is Less h = absurd cc
eq_is Equal h = refl
eq_is Greater h = absurd cc

-- the ids of the rows that pass are those of no other row
hit : (p : Row → Bool) (rows : List Row) → IsTable rows → HaveIds rows → (r : Row) → Has rows r → list_any (λ id. has_rowid id r) (map (λ x. id_in (rowid x)) (filter p rows)) ≡ p r
hit p rows up keyed r here = go (p r) refl
  where
    ids : List ℤ
    ids = map (λ x. id_in (rowid x)) (filter p rows)

    own : (x : Row) → Has rows x → rowid x ≡ Int (id_in (rowid x))
    own x there = int_is (rowid x) (all_has _ rows x keyed there)

    go : (b : Bool) → p r ≡ b → list_any (λ id. has_rowid id r) ids ≡ b
    go true is = some_from (λ id. has_rowid id r) ids (id_in (rowid r)) (mapped_has (λ x. id_in (rowid x)) (filter p rows) r (has_kept p rows r here is))
        (ap (λ v. is_eq (value_cmp (rowid r) v)) (sym (own r here)) ∙ ap is_eq (tied_itself value_cmp_total (rowid r)))
    go false is = false_from_ne_true _ (λ any.
        let some = some_has (λ id. has_rowid id r) ids any in
        let it = has_mapped (λ (x : Row). id_in (rowid x)) (filter p rows) some.0 some.1 in
        let was = has_filtered p rows it.0 it.1 in
        let tie : value_cmp (rowid r) (rowid it.0) ≡ Equal = ap (value_cmp (rowid r)) (own it.0 was.0 ∙ ap Int (sym it.2)) ∙ eq_is _ some.2 in
        let same = tied_same rows r it.0 up here was.0 tie in
        let e : p r ≡ true = ap p same ∙ was.1 in
        cc)

-- what is left where the rows that pass are taken out by their ids
pub left : (p : Row → Bool) (rows : List Row) (ids : List ℤ) → IsTable rows → HaveIds rows → IsPermutation (map (λ x. id_in (rowid x)) (filter p rows)) ids
    → without_all rows ids ≡ filter (λ r. not (p r)) rows
left p rows ids up keyed same =
    without_filter ids rows ∙ filter_same _ _ rows (λ r here. ap not (sym (list_any-IsPermutation (λ id. has_rowid id r) _ ids same) ∙ hit p rows up keyed r here))

-- ---- the statement

pub record DeletesRows (schema : Schema) (sql : List ℕ) (at : ℕ) (table : Table) (tests : List Term) : Type 0 where
  pub command : command_of (understood schema sql) ≡ Delete at (record { lets = []; body = query_of table.tree tests (col 1 0 ∷ []) [] })
  pub plain : IsPlain (understood schema sql)
  pub found : slice_get schema.tables at ≡ Some table
  pub still : (olds : List Row) → works schema Enforced 0 table.tree olds [] ≡ []

module _ (task : Task) (db : Trees) (tests : List Term) (up : IsTable (db task.table.tree)) (keyed : HaveIds (db task.table.tree)) where
  abbrev rows : List Row
  rows = db task.table.tree

  abbrev p : Row → Bool
  p = passes tests task.params

  abbrev q : Program
  q = record { lets = []; body = query_of task.table.tree tests (col 1 0 ∷ []) [] }

  gone : (found : List Row) → Answers (record { schema = task.schema; trees = db }) q task.params found → without_all rows (ids_of found) ≡ filter (λ r. not (p r)) rows
  gone rows' a =
      let same = found task.table.tree tests (col 1 0 ∷ []) [] db task.params rows' (finds _ _ _ _ db task.params rows' a.answer) in
      left p rows (ids_of rows') up keyed (subst (λ xs. IsPermutation xs (ids_of rows')) (map_map _ _ _) (IsPermutation-map (λ x. id_in (rowid x)) _ _ same))

  deletes_rows : (done : Written) → Deletes task q db (Ok done) → (found : List Row) × (without_all rows (ids_of found) ≡ filter (λ r. not (p r)) rows) × Writes task.schema task.keys db (edit_of db task.table (ids_of found) Given 0 []) (Ok done.trees)
  deletes_rows done (inl stop) = absurd (let e = stop.2 in cc)
  deletes_rows done (inr (found, answers, inl stop)) = absurd (let e = stop.2 in cc)
  deletes_rows done (inr (found, answers, inr (next, wrote, is))) = (found, gone found answers, subst (λ t. Writes task.schema task.keys db (edit_of db task.table (ids_of found) Given 0 []) (Ok t)) (sym (ap (λ (w : Written). w.trees) (same_value is))) wrote)

pub deletes : (schema : Schema) (sql : List ℕ) (at : ℕ) (table : Table) (tests : List Term) → DeletesRows schema sql at table tests
    → (old new : State) (params : Row) (count : ℕ) → old.now.schema ≡ schema → IsTable (old.now.trees table.tree) → HaveIds (old.now.trees table.tree) → Executes sql params old new (Ok count)
    → Changes schema old.now new.now table.tree (filter (λ r. not (passes tests params r)) (old.now.trees table.tree))
deletes schema sql at table tests it old new params count has up keyed h =
    let db = old.now.trees in
    let command = Delete at (record { lets = []; body = query_of table.tree tests (col 1 0 ∷ []) [] }) in
    let w = runs_as sql params old new schema has command it.command it.plain count h in
    let text = statement_of sql (understood schema sql) in
    let does = subst (λ s. Does old.step_limit (mode_of old) params (record old.now { schema = s }) text None command (Ok (w.tally, new.now))) has w.changed in
    let task : Task = record { limit = old.step_limit; keys = Enforced; schema = schema; table = table; params = params } in
    let on = subst (λ t. AtPlace (λ table. OnRows (record { limit = old.step_limit; keys = Enforced; schema = schema; table = table; params = params }) (mode_of old) None command db) t (Ok (w.tally, new.now))) it.found does in
    let parts = through (WritesRows task db command) (Concludes task (mode_of old) None) (w.tally, new.now) on in
    let now = concludes task (mode_of old) parts.0 w.tally new.now parts.2 in
    let wrote = deletes_rows task db tests up keyed parts.0 parts.1 in
    let edit : Edit = edit_of db table (ids_of wrote.0) Given 0 [] in
    let applied = one_step schema Enforced db parts.0.trees edit (it.still _) wrote.2 in
    record {
      schema_is = ap (λ (d : Database). d.schema) now;
      sound = w.sound;
      rows_are = ap (λ (d : Database). d.trees table.tree) now ∙ applied.rows ∙ wrote.1;
      others = λ t apart none. ap (λ (d : Database). d.trees t) now ∙ applied.others t apart none;
    }
