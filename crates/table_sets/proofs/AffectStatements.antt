-- What the statements on affects mean.
use Rattle.table_sets.proofs.Imports.{text_row, AreNamesOf}
use Rattle.table_schema.proofs.Exports.{◌≡◌, ℕ, pos, ◌==◌, List, [], ◌∷◌, codes, map, refl, ◌∙◌, arith, ⊤, bytes_eq, IsUtf8, Insert, Delete, understood, column, Values, col, Int, Text, everything, passes, equals, number_row, number_at_front, rowids_of, IsCallOf, IsQueryOf, hits, holds_text, and_true, edited, IsFree, PutAffects, DropAffects, text_in, AFFECTS, desk_schema, TextRow, text_cells, text_rows, affects, keyed_affects, cast_int, cast_null, same_text, turned, one_more, none_left, apart, owners_any, IsWrite, IsRead, adds, clears, asks}
use Rattle.table_sets.specs.Affecting.{AreKeysAffecting}
use Rattle.table_sets.proofs.KeyAnswers.{has_any}
use Rattle.table_sets.proofs.TextStatements.{terms, add_params, hit_key, are_names}

-- ---- a package comes

abbrev add_text : List ℕ
add_text = codes "INSERT INTO affects VALUES (?1, ?2)"

add_call : (k : ℕ) (n : List ℕ) → IsCallOf desk_schema add_text (add_params k n) (Insert 7 (Values terms 3))
unfolding understood everything
add_call k n = record { command_is = refl; writes = tt; plain = (refl, refl); whole = omega arith; given = refl }

pub add_is : (k : ℕ) (n : List ℕ) → IsUtf8 n → IsWrite add_text (add_params k n) (IsFree (PutAffects k n)) (edited (PutAffects k n))
add_is k n is = adds keyed_affects add_text (add_params k n) terms (PutAffects k n) (record {
  text = record { call = add_call k n; typed = refl; one = λ row. refl };
  new = λ id. record { id = id; key = k; text = n };
  own = λ id. refl;
  is = λ rows. rw (cast_null, cast_int (pos k)) refl;
  good = λ id. is;
  kept = λ id. record { datatype = λ db. refl; not_null = λ db. refl; check = λ db. refl; keyed = refl };
  more = λ xs id c. λ i. record c { affects = λ o. one_more text_rows xs (record { id = id; key = k; text = n }) o i };
  none = λ xs id c free. apart text_rows k n _ (λ x. refl) xs free.1;
})

-- ---- those of a key go

abbrev clear_text : List ℕ
clear_text = codes "DELETE FROM affects WHERE set_key = ?1"

clear_call : (k : ℕ) → IsCallOf desk_schema clear_text (Int (pos k) ∷ []) (Delete 7 (rowids_of AFFECTS (equals 1 ∷ [])))
unfolding understood everything
clear_call k = record { command_is = refl; writes = tt; plain = (refl, refl); whole = omega arith; given = refl }

pub clear_is : (k : ℕ) → IsWrite clear_text (Int (pos k) ∷ []) (IsFree (DropAffects k)) (edited (DropAffects k))
clear_is k = clears affects clear_text (Int (pos k) ∷ []) (equals 1 ∷ []) (DropAffects k) (record {
  call = clear_call k;
  typed = refl;
  is_hit = λ x. x.key == k;
  hits = hit_key k;
  less = λ xs c. λ i. record c { affects = λ o. none_left text_rows (λ x. x.key == k) (λ j. k == j) (λ x. turned x.key k) xs o i };
})

-- ---- those of a key are read

abbrev read_text : List ℕ
read_text = codes "SELECT package FROM affects WHERE set_key = ?1"

read_is : (k : ℕ) → IsQueryOf desk_schema read_text (Int (pos k) ∷ []) AFFECTS (equals 1 ∷ []) (col 1 2 ∷ []) [] (codes "package" ∷ [])
unfolding understood everything
read_is k = record { command_is = refl; plain = (refl, refl); whole = omega arith; given = refl; unlisted = refl; typed = refl }

pub names_read : (k : ℕ) → IsRead read_text (Int (pos k) ∷ []) (λ c rows. (ns : List (List ℕ)) × (rows ≡ map text_row ns) × AreNamesOf (c.affects k) ns)
names_read k = asks affects read_text (Int (pos k) ∷ []) (equals 1 ∷ []) (col 1 2 ∷ []) (codes "package" ∷ []) _ (record {
  text = read_is k;
  is_hit = λ x. x.key == k;
  hits = hit_key k;
  of = λ x. x.text;
  row = text_row;
  back = λ r. text_in (column r 0);
  same = λ n. refl;
  shows = λ x. refl;
  AreFine = λ xs. ⊤;
  fine = λ s inside live all. tt;
  says = λ xs c fine good ns any. (ns, refl, are_names k _ xs ns good any refl);
})

-- ---- the keys of a package are read

abbrev keys_text : List ℕ
keys_text = codes "SELECT set_key FROM affects WHERE package = ?1"

keys_is : (p : List ℕ) → IsQueryOf desk_schema keys_text (Text p ∷ []) AFFECTS (equals 2 ∷ []) (col 1 1 ∷ []) [] (codes "set_key" ∷ [])
unfolding understood everything
keys_is p = record { command_is = refl; plain = (refl, refl); whole = omega arith; given = refl; unlisted = refl; typed = refl }

hit_package : (p : List ℕ) (x : TextRow) → passes (equals 2 ∷ []) (Text p ∷ []) (text_cells x) ≡ bytes_eq x.text p
hit_package p x = and_true _ ∙ holds_text 2 0 (Text p ∷ []) (text_cells x) p refl ∙ same_text x.text p

pub keys_read : (p : List ℕ) → IsRead keys_text (Text p ∷ []) (λ c rows. (keys : List ℕ) × (rows ≡ map number_row keys) × AreKeysAffecting p c keys)
keys_read p = asks affects keys_text (Text p ∷ []) (equals 2 ∷ []) (col 1 1 ∷ []) (codes "set_key" ∷ []) _ (record {
  text = keys_is p;
  is_hit = λ x. bytes_eq x.text p;
  hits = hit_package p;
  of = λ x. x.key;
  row = number_row;
  back = number_at_front;
  same = λ n. refl;
  shows = λ x. refl;
  AreFine = λ xs. ⊤;
  fine = λ s inside live all. tt;
  says = λ xs c fine good keys any. (keys, refl, λ k. has_any k keys ∙ owners_any text_rows (λ x. x.key) (λ y. y == k) k p (λ x. refl) xs keys any);
})
