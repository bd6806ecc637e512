-- What the statements on blocks mean.
use Rattle.table_schema.proofs.Exports.{◌≡◌, ℕ, pos, ◌==◌, List, [], ◌∷◌, codes, map, refl, ◌∙◌, arith, ⊤, Insert, Delete, understood, Row, Values, Term, lit, col, Null, Int, everything, passes, equals, number_row, number_at_front, rowids_of, IsCallOf, IsQueryOf, hits, same_number, edited, IsFree, PutBlocker, DropBlockers, BLOCKS, desk_schema, BlockRow, block_cells, block_rows, blocks, keyed_blocks, cast_int, cast_null, turned, one_more, none_left, apart, owners_any, IsWrite, IsRead, adds, clears, asks, asks_numbers, by_column}
use Rattle.table_sets.specs.Waiting.{AreKeysOf}
use Rattle.table_sets.proofs.KeyAnswers.{has_any}

-- ---- a blocker comes

abbrev add_text : List ℕ
add_text = codes "INSERT INTO blocks VALUES (?1, ?2)"

abbrev terms : List Term
terms = lit Null ∷ col 0 0 ∷ col 0 1 ∷ []

abbrev add_params : ℕ → ℕ → Row
add_params k b = Int (pos k) ∷ Int (pos b) ∷ []

add_call : (k b : ℕ) → IsCallOf desk_schema add_text (add_params k b) (Insert 4 (Values terms 3))
unfolding understood everything
add_call k b = record { command_is = refl; writes = tt; plain = (refl, refl); whole = omega arith; given = refl }

pub add_is : (k b : ℕ) → IsWrite add_text (add_params k b) (IsFree (PutBlocker k b)) (edited (PutBlocker k b))
add_is k b = adds keyed_blocks add_text (add_params k b) terms (PutBlocker k b) (record {
  text = record { call = add_call k b; typed = refl; one = λ row. refl };
  new = λ id. record { id = id; key = k; blocker = b };
  own = λ id. refl;
  is = λ rows. rw (cast_null, cast_int (pos k), cast_int (pos b)) refl;
  good = λ id. tt;
  kept = λ id. record { datatype = λ db. refl; not_null = λ db. refl; check = λ db. refl; keyed = refl };
  more = λ xs id c. λ i. record c { blockers = λ o. one_more block_rows xs (record { id = id; key = k; blocker = b }) o i };
  none = λ xs id c free. apart block_rows k b _ (λ x. refl) xs free.2;
})

-- ---- those of a key go

abbrev clear_text : List ℕ
clear_text = codes "DELETE FROM blocks WHERE set_key = ?1"

clear_call : (k : ℕ) → IsCallOf desk_schema clear_text (Int (pos k) ∷ []) (Delete 4 (rowids_of BLOCKS (equals 1 ∷ [])))
unfolding understood everything
clear_call k = record { command_is = refl; writes = tt; plain = (refl, refl); whole = omega arith; given = refl }

hit_key : (k : ℕ) (x : BlockRow) → passes (equals 1 ∷ []) (Int (pos k) ∷ []) (block_cells x) ≡ (x.key == k)
hit_key k x = hits 1 (pos k) (block_cells x) ∙ same_number x.key k

pub clear_is : (k : ℕ) → IsWrite clear_text (Int (pos k) ∷ []) (IsFree (DropBlockers k)) (edited (DropBlockers k))
clear_is k = clears blocks clear_text (Int (pos k) ∷ []) (equals 1 ∷ []) (DropBlockers k) (record {
  call = clear_call k;
  typed = refl;
  is_hit = λ x. x.key == k;
  hits = hit_key k;
  less = λ xs c. λ i. record c { blockers = λ o. none_left block_rows (λ x. x.key == k) (λ j. k == j) (λ x. turned x.key k) xs o i };
})

-- ---- those of a key are read, in order

abbrev read_text : List ℕ
read_text = codes "SELECT blocker FROM blocks WHERE set_key = ?1 ORDER BY blocker"

read_is : (k : ℕ) → IsQueryOf desk_schema read_text (Int (pos k) ∷ []) BLOCKS (equals 1 ∷ []) (col 1 2 ∷ []) (by_column 2) (codes "blocker" ∷ [])
unfolding understood everything
read_is k = record { command_is = refl; plain = (refl, refl); whole = omega arith; given = refl; unlisted = refl; typed = refl }

pub blockers_read : (k : ℕ) → IsRead read_text (Int (pos k) ∷ []) (λ c rows. rows ≡ map number_row (c.blockers k))
blockers_read k = asks_numbers blocks read_text (Int (pos k) ∷ []) (equals 1 ∷ []) 2 (codes "blocker" ∷ []) (λ c. c.blockers k)
    (record { text = read_is k; is_hit = λ x. x.key == k; hits = hit_key k; of = λ x. x.blocker; shows = λ x. refl; says = λ xs c. refl })

-- ---- the keys of a blocker are read

abbrev waiting_text : List ℕ
waiting_text = codes "SELECT set_key FROM blocks WHERE blocker = ?1"

waiting_is : (b : ℕ) → IsQueryOf desk_schema waiting_text (Int (pos b) ∷ []) BLOCKS (equals 2 ∷ []) (col 1 1 ∷ []) [] (codes "set_key" ∷ [])
unfolding understood everything
waiting_is b = record { command_is = refl; plain = (refl, refl); whole = omega arith; given = refl; unlisted = refl; typed = refl }

hit_blocker : (b : ℕ) (x : BlockRow) → passes (equals 2 ∷ []) (Int (pos b) ∷ []) (block_cells x) ≡ (x.blocker == b)
hit_blocker b x = hits 2 (pos b) (block_cells x) ∙ same_number x.blocker b

pub waiting_read : (b : ℕ) → IsRead waiting_text (Int (pos b) ∷ []) (λ c rows. (keys : List ℕ) × (rows ≡ map number_row keys) × AreKeysOf b c keys)
waiting_read b = asks blocks waiting_text (Int (pos b) ∷ []) (equals 2 ∷ []) (col 1 1 ∷ []) (codes "set_key" ∷ []) _ (record {
  text = waiting_is b;
  is_hit = λ x. x.blocker == b;
  hits = hit_blocker b;
  of = λ x. x.key;
  row = number_row;
  back = number_at_front;
  same = λ n. refl;
  shows = λ x. refl;
  AreFine = λ xs. ⊤;
  fine = λ s inside live all. tt;
  says = λ xs c fine good keys any. (keys, refl, λ k. has_any k keys ∙ owners_any block_rows (λ x. x.key) (λ y. y == k) k b (λ x. refl) xs keys any);
})
