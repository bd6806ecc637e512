-- What the UPDATE of the next number means.
use Rattle.table_schema.proofs.Exports.{◌≡◌, ℕ, pos, List, [], ◌∷◌, codes, filter, cond, true, Ok, Err, refl, sym, ap, subst, ◌∙◌, arith, ⊤, Update, understood, Row, State, ExecutesInside, Term, lit, col, op2, eval_all, Trees, Error, Null, Int, everything, Binary, IsFaultOf, fault_of, Changes, passes, IsCallOf, IsGoodRow, ChangesWell, changed_row, update_free, hits, same_number, UpdatesRows, updating, update_edit, updates_one, META, meta_table, desk_schema, meta_cells, IsInside, cast_int, cast_null, meta_remade, meta_plain, unique_at, Makes, IsWrite}
use Rattle.sqlite.specs.Edit.{edited}
use Rattle.sqlite_sql.specs.declared.ops.BinaryOp.TheVariants.{Compare}
use Rattle.sqlite_sql.specs.declared.ops.CompareOp.TheVariants.{Eq}

abbrev pub write_text : List ℕ
write_text = codes "UPDATE meta SET next = ?1 WHERE id = 1"

-- the row of number 1
abbrev pub first_row : List Term
first_row = op2 (Compare Eq Binary) (col 1 0) (lit (Int (pos 1))) ∷ []

-- its rowid, and then its new cells
abbrev terms : List Term
terms = col 1 0 ∷ col 1 0 ∷ lit Null ∷ col 1 2 ∷ col 0 0 ∷ []

abbrev params_of : ℕ → Row
params_of next = Int (pos next) ∷ []

updates_row : UpdatesRows desk_schema write_text 0 meta_table first_row terms
unfolding understood everything
updates_row = record { command = refl; plain = (refl, refl); found = refl; still = λ olds news. refl }

write_call : (next : ℕ) → IsCallOf desk_schema write_text (params_of next) (Update 0 (updating meta_table first_row terms))
unfolding understood everything
write_call next = record { command_is = refl; writes = tt; plain = (refl, refl); whole = omega arith; given = refl }

-- ---- the row of meta

pub hit_first : (params : Row) (n : ℕ) → passes first_row params (meta_cells n) ≡ true
hit_first params n = hits 0 (pos 1) (meta_cells n) ∙ same_number 1 1

-- it alone passes
pub only_first : (params : Row) (n : ℕ) (rows : List Row) → rows ≡ meta_cells n ∷ [] → filter (passes first_row params) rows ≡ meta_cells n ∷ []
only_first params n rows is = ap (filter (passes first_row params)) is ∙ ap (λ b. cond b (meta_cells n ∷ []) []) (hit_first params n)

abbrev cells_of : ℕ → ℕ → Row
cells_of n next = eval_all terms (params_of next ∷ meta_cells n ∷ [])

row_is : (n next : ℕ) → changed_row meta_table (cells_of n next) ≡ meta_cells next
row_is n next = rw (cast_null, cast_int (pos 1), cast_int (pos 3), cast_int (pos next)) refl

rows_are : (db : Trees) (n next : ℕ) → db META ≡ meta_cells n ∷ [] → edited db (update_edit db meta_table (cells_of n next)) ≡ meta_cells next ∷ []
rows_are db n next is = rw (is, same_number 1 1, cast_null, cast_int (pos 1), cast_int (pos 3), cast_int (pos next)) refl

writes : (next : ℕ) (old new : State) (count : ℕ) → IsInside old → ExecutesInside 0 write_text (params_of next) old new (Ok count) → Makes old new (λ c. record c { next = next })
writes next old new count inside h =
    let shown = inside.shown h.1.was_open in
    let n = shown.meta.0 in
    let it = updates_one desk_schema write_text 0 meta_table first_row terms updates_row old new (params_of next) (meta_cells n) count (inside.schema h.1.was_open)
    (only_first (params_of next) n (old.now.trees META) shown.meta.1) h.0 in
    meta_remade old new next (subst (Changes desk_schema old.now new.now META) (rows_are old.now.trees n next shown.meta.1) it) shown

-- ---- the tables never refuse it

good_row : (next : ℕ) → IsGoodRow desk_schema meta_table (meta_cells next)
good_row next = record { datatype = λ db. refl; not_null = λ db. refl; check = λ db. refl; keyed = refl }

goes_well : (next n : ℕ) (db : Trees) → db META ≡ meta_cells n ∷ [] → ChangesWell desk_schema meta_table first_row terms (params_of next) db
goes_well next n db is = record {
  row = meta_cells n;
  one = only_first (params_of next) n (db META) is;
  good = subst (IsGoodRow desk_schema meta_table) (sym (row_is n next)) (good_row next);
  untaken = rw (is, same_number 1 1) refl;
  apart = refl;
}

write_free : (next : ℕ) (old new : State) (e : Error) → IsInside old → ExecutesInside 0 write_text (params_of next) old new (Err e) → IsFaultOf old new (fault_of e)
write_free next old new e inside =
    update_free desk_schema write_text 0 meta_table first_row terms updates_row meta_plain (params_of next) (write_call next) refl old new e inside.unlimited inside.schema (unique_at old inside)
    (λ live. let meta = (inside.shown live).meta in goes_well next meta.0 old.now.trees meta.1)

pub write_is : (next : ℕ) → IsWrite write_text (Int (pos next) ∷ []) (λ _. ⊤) (λ c. record c { next = next })
write_is next = record { makes = writes next; free = λ old new e inside _. write_free next old new e inside }
