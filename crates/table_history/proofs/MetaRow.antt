-- What is written of the row of meta: the row of a new desk, in tables with no row, and the number
-- of the newest schema, in tables that are carried over to it.
use Rattle.table_history.proofs.Imports.{IsDeskOf, no_rows, numbered_cells, IsBuilt, AreNumbered, Compare}
use Rattle.table_schema.proofs.Exports.{◌≡◌, ℕ, pos, List, [], ◌∷◌, codes, false, Ok, Err, refl, sym, subst, ◌∙◌, arith, filter, cond, true, IsTrue, ap, ⊤, AllByRecursion, Insert, Update, is_taken, understood, Row, Values, State, ExecutesInside, Term, lit, col, op2, eval_all, Trees, put_row, Error, Null, Int, everything, with_tree, IsFaultOf, fault_of, Changes, inserted, passes, IsCallOf, InsertsRow, inserts, IsGoodRow, insert_free, ChangesWell, changed_row, update_free, no_content, Content, META, meta_table, desk_schema, meta_cells, content_of, AreShown, cast_int, cast_null, AreSame, same_content, remade, same_shown, meta_plain, Binary, hits, same_number, UpdatesRows, updating, update_edit, updates_one}
use Rattle.sqlite.specs.Edit.{edited}
use Rattle.table_forms.specs.TypedRows.{AreRows}
use Rattle.table_history.proofs.BuildLemmas.{IsMaking, unique_in}
use Rattle.table_history.proofs.CarriedLemmas.{kept_same}
use Rattle.sqlite_sql.specs.declared.ops.CompareOp.TheVariants.{Eq}

abbrev pub put_text : List ℕ
put_text = codes "INSERT INTO meta VALUES (1, 3, ?1)"

abbrev put_terms : List Term
put_terms = lit (Int (pos 1)) ∷ lit Null ∷ lit (Int (pos 3)) ∷ col 0 0 ∷ []

puts_row : InsertsRow desk_schema put_text 0 meta_table put_terms
unfolding understood everything
puts_row = record { command = refl; plain = (refl, refl); found = refl; uncounted = refl; unstamped = refl; one = λ params. refl; still = λ row. refl }

abbrev pub params_of : ℕ → Row
params_of first = Int (pos first) ∷ []

put_call : (first : ℕ) → IsCallOf desk_schema put_text (params_of first) (Insert 0 (Values put_terms 4))
unfolding understood everything
put_call first = record { command_is = refl; writes = tt; plain = (refl, refl); whole = omega arith; given = refl }

put_row_is : (rows : List Row) (first : ℕ) → inserted meta_table rows put_terms (params_of first) ≡ meta_cells first
put_row_is rows first = rw (cast_null, cast_int (pos 1), cast_int (pos 3), cast_int (pos first)) refl

-- ---- tables with no row but that of meta

none_shown : {T : Type 0} (cells : T → Row) (Good : T → Type 0) (rows : List Row) → rows ≡ [] → AreRows cells Good rows
none_shown cells Good rows none = subst (AreRows cells Good) (sym none) (record { items = []; are = refl; up = tt; keyed = tt; good = tt })

abbrev new_trees : ℕ → Trees
new_trees first = with_tree (λ _. []) META (meta_cells first ∷ [])

new_says : (first : ℕ) → content_of (new_trees first) ≡ no_content first
new_says first = refl

module _ (first : ℕ) (db : Trees) (none : AllByRecursion (λ t. db t.tree ≡ []) desk_schema.tables) where
  are_new : AreSame (with_tree db META (meta_cells first ∷ [])) (new_trees first)
  are_new = kept_same (λ _. []) db (meta_cells first ∷ []) none

  shows_new : AreShown (with_tree db META (meta_cells first ∷ []))
  shows_new = record {
    meta = (first, refl);
    sets = none_shown _ _ _ none.1.0;
    bugs = none_shown _ _ _ none.1.1.0;
    marks = none_shown _ _ _ none.1.1.1.0;
    blocks = none_shown _ _ _ none.1.1.1.1.0;
    nodes = none_shown _ _ _ none.1.1.1.1.1.0;
    nearest = none_shown _ _ _ none.1.1.1.1.1.1.0;
    affects = none_shown _ _ _ none.1.1.1.1.1.1.1.0;
    messages = none_shown _ _ _ none.1.1.1.1.1.1.1.1.0;
    outcomes = none_shown _ _ _ none.1.1.1.1.1.1.1.1.1.0;
    outcome_numbers = none_shown _ _ _ none.1.1.1.1.1.1.1.1.1.1.0;
  }

puts : (first : ℕ) (old new : State) (count : ℕ) → IsBuilt ⊤ no_rows desk_schema old → new.step_limit ≡ old.step_limit → ExecutesInside 0 put_text (params_of first) old new (Ok count) → IsDeskOf (no_content first) new
puts first old new count was limit h =
    let live = h.1.was_open in
    let none = was.rows_are live in
    let it = inserts desk_schema _ 0 meta_table put_terms puts_row old new _ count (was.schema_is live) h.0 in
    let put = subst (λ row. Changes desk_schema old.now new.now META (put_row row (old.now.trees META))) (put_row_is (old.now.trees META) first) it.changes in
    let alone = subst (λ rows. Changes desk_schema old.now new.now META (put_row (meta_cells first) rows)) none.0 put in
    let m = remade old new META (meta_cells first ∷ []) alone (shows_new first old.now.trees none) (λ _. no_content first)
    (same_content _ (new_trees first) (are_new first old.now.trees none) ∙ new_says first) in
    record {
      inside = record { begun = h.1.mode; unlimited = limit ∙ was.unlimited; schema = λ _. m.schema; sound = λ _. m.sound; shown = λ _. m.shown };
      says = m.content;
    }

-- ---- it is never refused

good_row : (first : ℕ) → IsGoodRow desk_schema meta_table (meta_cells first)
good_row first = record { datatype = λ db. refl; not_null = λ db. refl; check = λ db. refl; keyed = refl }

put_free : (first : ℕ) (old new : State) (e : Error) → IsBuilt ⊤ no_rows desk_schema old → ExecutesInside 0 put_text (params_of first) old new (Err e) → IsFaultOf old new (fault_of e)
put_free first old new e was =
    insert_free desk_schema put_text 0 meta_table put_terms puts_row meta_plain (params_of first) (put_call first) refl old new e was.unlimited was.schema_is (unique_in ⊤ no_rows desk_schema old was)
    (λ live. subst (IsGoodRow desk_schema meta_table) (sym (put_row_is rows first)) (good_row first))
    (λ live. subst (λ xs. is_taken xs (inserted meta_table rows put_terms (params_of first)) ≡ false) (sym (was.rows_are live).0) refl)
    (λ live. refl)
  where
    rows : List Row
    rows = old.now.trees META

pub put_is : (first : ℕ) → IsMaking put_text (params_of first) (IsBuilt ⊤ no_rows desk_schema) (IsDeskOf (no_content first))
put_is first = record { begun = λ s was. was.begun; makes = puts first; free = put_free first }

-- ---- the number of the newest schema

abbrev pub number_set_text : List ℕ
number_set_text = codes "UPDATE meta SET schema = 3 WHERE id = 1"

-- the row of number 1
abbrev first_row : List Term
first_row = op2 (Compare Eq Binary) (col 1 0) (lit (Int (pos 1))) ∷ []

-- its rowid, and then its new cells
abbrev terms : List Term
terms = col 1 0 ∷ col 1 0 ∷ lit Null ∷ lit (Int (pos 3)) ∷ col 1 3 ∷ []

updates_row : UpdatesRows desk_schema number_set_text 0 meta_table first_row terms
unfolding understood everything
updates_row = record { command = refl; plain = (refl, refl); found = refl; still = λ olds news. refl }

set_call : IsCallOf desk_schema number_set_text [] (Update 0 (updating meta_table first_row terms))
unfolding understood everything
set_call = record { command_is = refl; writes = tt; plain = (refl, refl); whole = omega arith; given = refl }

-- ---- the row of meta

module _ (k : ℕ) (c : Content) (rows : Trees) where
  abbrev Before : State → Type 0
  Before = IsBuilt (AreNumbered k c rows) rows desk_schema

  abbrev was_cells : Row
  was_cells = numbered_cells k c.next

  abbrev new_cells : Row
  new_cells = eval_all terms ([] ∷ was_cells ∷ [])

  meta_is : (s : State) → Before s → IsTrue s.is_open → s.now.trees META ≡ was_cells ∷ []
  meta_is s was live = (was.rows_are live).0 ∙ (was.fact live).meta

  hit : passes first_row [] was_cells ≡ true
  hit = hits 0 (pos 1) was_cells ∙ same_number 1 1

  -- it alone passes
  alone : (xs : List Row) → xs ≡ was_cells ∷ [] → filter (passes first_row []) xs ≡ was_cells ∷ []
  alone xs is = ap (filter (passes first_row [])) is ∙ ap (λ b. cond b (was_cells ∷ []) []) hit

  row_is : changed_row meta_table new_cells ≡ meta_cells c.next
  row_is = rw (cast_null, cast_int (pos 1), cast_int (pos 3), cast_int (pos c.next)) refl

  edited_is : (db : Trees) → db META ≡ was_cells ∷ [] → edited db (update_edit db meta_table new_cells) ≡ meta_cells c.next ∷ []
  edited_is db is = rw (is, same_number 1 1, cast_null, cast_int (pos 1), cast_int (pos 3), cast_int (pos c.next)) refl

  sets : (old new : State) (count : ℕ) → Before old → new.step_limit ≡ old.step_limit → ExecutesInside 0 number_set_text [] old new (Ok count) → IsDeskOf c new
  sets old new count was limit h =
      let live = h.1.was_open in
      let meta = meta_cells c.next ∷ [] in
      let same = kept_same rows old.now.trees meta (was.rows_are live) in
      let it = updates_one desk_schema number_set_text 0 meta_table first_row terms updates_row old new [] was_cells count (was.schema_is live)
      (alone (old.now.trees META) (meta_is old was live)) h.0 in
      let put = subst (Changes desk_schema old.now new.now META) (edited_is old.now.trees (meta_is old was live)) it in
      let m = remade old new META meta put (same_shown _ (with_tree rows META meta) same (was.fact live).shown) (λ _. c)
      (same_content _ (with_tree rows META meta) same ∙ (was.fact live).says) in
      record {
        inside = record { begun = h.1.mode; unlimited = limit ∙ was.unlimited; schema = λ _. m.schema; sound = λ _. m.sound; shown = λ _. m.shown };
        says = m.content;
      }

  -- ---- it is never refused

  goes_well : (db : Trees) → db META ≡ was_cells ∷ [] → ChangesWell desk_schema meta_table first_row terms [] db
  goes_well db is = record {
    row = was_cells;
    one = alone (db META) is;
    good = subst (IsGoodRow desk_schema meta_table) (sym row_is) (good_row c.next);
    untaken = rw (is, same_number 1 1) refl;
    apart = refl;
  }

  free : (old new : State) (error : Error) → Before old → ExecutesInside 0 number_set_text [] old new (Err error) → IsFaultOf old new (fault_of error)
  free old new error was =
      update_free desk_schema number_set_text 0 meta_table first_row terms updates_row meta_plain [] set_call refl old new error was.unlimited was.schema_is
      (unique_in (AreNumbered k c rows) rows desk_schema old was) (λ live. goes_well old.now.trees (meta_is old was live))

  pub sets_number : IsMaking number_set_text [] Before (IsDeskOf c)
  sets_number = record { begun = λ s was. was.begun; makes = sets; free = free }
