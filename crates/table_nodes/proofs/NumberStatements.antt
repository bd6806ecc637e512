-- What the statements on outcome_numbers mean.
use Rattle.table_schema.proofs.Exports.{◌≡◌, ℕ, ℤ, pos, ◌==◌, ◌&&◌, Bool, true, false, eqb, if◌then◌else◌, List, [], ◌∷◌, ◌++◌, codes, map, refl, sym, ap, ◌∙◌, arith, bytes_decides, bytes_eq, IsUtf8, Insert, understood, binary, is_true, Row, column, value_cmp, Values, Term, lit, col, holds, Null, Int, Text, everything, Binary, passes, equals_at, number_row, IsCallOf, IsQueryOf, hits, holds_text, same_number, and_true, put_at, put_of, placed, edited, IsFree, PutOutcomeNumber, OUTCOME_NUMBERS, desk_schema, NumberRow, number_cells, outcome_numbers_in, cast_int, cast_null, same_text, outcome_numbers, keyed_outcome_numbers, number_rows, and_assoc, one_more, apart, IsWrite, IsRead, adds, asks_numbers, by_column}
use Rattle.std.specs.Ordering.{is_eq}
use Rattle.sqlite_sql.specs.declared.ops.BinaryOp.TheVariants.{Compare}
use Rattle.sqlite_sql.specs.declared.ops.CompareOp.TheVariants.{Eq}

-- ---- a number comes

abbrev add_text : List ℕ
add_text = codes "INSERT INTO outcome_numbers VALUES (?1, ?2, ?3)"

abbrev terms : List Term
terms = lit Null ∷ col 0 0 ∷ col 0 1 ∷ col 0 2 ∷ []

abbrev add_params : List ℕ → ℕ → ℕ → Row
add_params id place n = Text id ∷ Int (pos place) ∷ Int (pos n) ∷ []

add_call : (id : List ℕ) (place n : ℕ) → IsCallOf desk_schema add_text (add_params id place n) (Insert 10 (Values terms 4))
unfolding understood everything
add_call id place n = record { command_is = refl; writes = tt; plain = (refl, refl); whole = omega arith; given = refl }

abbrev new_row : List ℕ → ℕ → ℕ → ℤ → NumberRow
new_row id place n rowid = record { id = rowid; message_id = id; place = place; number = n }

more : (id : List ℕ) (place n : ℕ) (xs : List NumberRow) (rowid : ℤ) (other : List ℕ) (p : ℕ) → outcome_numbers_in (xs ++ new_row id place n rowid ∷ []) other p
    ≡ put_of id (put_at place (placed (λ k. k) (outcome_numbers_in xs id place) n) (outcome_numbers_in xs id)) (outcome_numbers_in xs) other p
more id place n xs rowid other p = one_more number_rows xs (new_row id place n rowid) (other, p) ∙ go (bytes_eq id other) refl
  where
    all : List ℕ
    all = placed (λ k. k) (outcome_numbers_in xs id place) n

    go : (b : Bool) → bytes_eq id other ≡ b → (if b && (place == p) then all else outcome_numbers_in xs other p) ≡ (if b then put_at place all (outcome_numbers_in xs id) else outcome_numbers_in xs other) p
    go true is = ap (λ (i : List ℕ). if place == p then all else outcome_numbers_in xs i p) (sym ((bytes_decides id other).0 is))
    go false is = refl

pub add_is : (id : List ℕ) (place n : ℕ) → IsUtf8 id → IsWrite add_text (add_params id place n) (IsFree (PutOutcomeNumber id place n)) (edited (PutOutcomeNumber id place n))
add_is id place n is = adds keyed_outcome_numbers add_text (add_params id place n) terms (PutOutcomeNumber id place n) (record {
  text = record { call = add_call id place n; typed = refl; one = λ row. refl };
  new = new_row id place n;
  own = λ rowid. refl;
  is = λ rows. rw (cast_null, cast_int (pos place), cast_int (pos n)) refl;
  good = λ rowid. is;
  kept = λ rowid. record { datatype = λ db. refl; not_null = λ db. refl; check = λ db. refl; keyed = refl };
  more = λ xs rowid c. λ i. record c { outcome_numbers = λ other p. more id place n xs rowid other p i };
  none = λ xs rowid c free. apart number_rows (id, place) n _ (λ x. and_assoc (bytes_eq x.message_id id) (eqb x.place place) (eqb x.number n)) xs free.1;
})

-- ---- those of a place of an id are read, in order

abbrev read_text : List ℕ
read_text = codes "SELECT number FROM outcome_numbers WHERE id = ?1 AND place = ?2 ORDER BY number"

abbrev tests : List Term
tests = equals_at 1 0 ∷ equals_at 2 1 ∷ []

abbrev params_of : List ℕ → ℕ → Row
params_of id place = Text id ∷ Int (pos place) ∷ []

read_is : (id : List ℕ) (place : ℕ) → IsQueryOf desk_schema read_text (params_of id place) OUTCOME_NUMBERS tests (col 1 3 ∷ []) (by_column 3) (codes "number" ∷ [])
unfolding understood everything
read_is id place = record { command_is = refl; plain = (refl, refl); whole = omega arith; given = refl; unlisted = refl; typed = refl }

-- whether a column has the number of the second parameter
holds_number : (k : ℤ) (params r : Row) → column params 1 ≡ Int k → holds (params ∷ r ∷ []) (equals_at 2 1) ≡ is_eq (value_cmp (column r 2) (Int k))
holds_number k params r is = ap (λ v. is_true (binary (Compare Eq Binary) (column r 2) v)) is ∙ sym (and_true _) ∙ hits 2 k r

-- whether a row has the id and the place
hit : (id : List ℕ) (place : ℕ) (x : NumberRow) → passes tests (params_of id place) (number_cells x) ≡ (bytes_eq x.message_id id && (x.place == place))
hit id place x =
    let one = holds_text 1 0 (params_of id place) (number_cells x) id refl ∙ same_text x.message_id id in
    let two = holds_number (pos place) (params_of id place) (number_cells x) refl ∙ same_number x.place place in
    (λ i. one i && (two i && true)) ∙ ap (λ b. bytes_eq x.message_id id && b) (and_true _)

pub numbers_read : (id : List ℕ) (place : ℕ) → IsRead read_text (params_of id place) (λ c rows. rows ≡ map number_row (c.outcome_numbers id place))
numbers_read id place = asks_numbers outcome_numbers read_text (params_of id place) tests 3 (codes "number" ∷ []) (λ c. c.outcome_numbers id place)
    (record { text = read_is id place; is_hit = λ x. bytes_eq x.message_id id && (x.place == place); hits = hit id place; of = λ x. x.number; shows = λ x. refl; says = λ xs c. refl })
