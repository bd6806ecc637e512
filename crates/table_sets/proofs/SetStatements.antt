-- What the statements on sets mean.
use Rattle.table_sets.proofs.Imports.{field_row, field_rows, AreFieldsOf}
use Rattle.table_schema.proofs.Exports.{◌≡◌, ℕ, pos, ◌==◌, ◌<◌, true, List, [], ◌∷◌, codes, filter, Option, Some, None, option_map, refl, ◌∙◌, arith, option_map_or, Insert, Delete, understood, Row, Values, Term, lit, col, Null, Int, Text, everything, or_null, accepts_terms, rank, IsGoodRow, flag, tags_number, IsAscending, passes, equals, rowids_of, IsCallOf, IsQueryOf, hits, same_number, edited, IsFree, PutFields, DropFields, SETS, sets_table, desk_schema, SetRow, set_cells, IsSetRow, fields_of_row, sets, last_row, cast_int, cast_null, numbered_more, numbered_left, none_said, one_kept, one_numbered, last_good, IsWrite, IsRead, clears, adds_numbered, rises, asks, one_answer}
use Rattle.sqlite.specs.Cast.{cast}
use Rattle.sqlite.specs.Kind.TheVariants.{Text as TextKind}
use Rattle.sqlite.specs.Kind.TheVariants.{Text as TextKind}
use Rattle.table_content.specs.declared.edit.SetFields.{SetFields}

abbrev pub set_key : SetRow → ℕ
set_key x = x.key

-- ---- fields come

abbrev add_text : List ℕ
add_text = codes "INSERT INTO sets VALUES (?1, ?2, ?3, ?4, ?5, ?6, ?7, ?8)"

abbrev terms : List Term
terms = col 0 0 ∷ lit Null ∷ col 0 1 ∷ col 0 2 ∷ col 0 3 ∷ col 0 4 ∷ col 0 5 ∷ col 0 6 ∷ col 0 7 ∷ []

-- the row that is added
abbrev pub new_row : ℕ → SetFields → SetRow
new_row k f = record { key = k; «package» = f.«package»; severity = f.severity; closed = f.closed; forwarded = f.forwarded; owner = f.owner; tags = tags_number f.tags; archived = f.archived }

abbrev add_params : ℕ → SetFields → Row
add_params k f =
    Int (pos k) ∷ Text f.«package» ∷ Int (pos (rank f.severity)) ∷ Int (pos (flag f.closed)) ∷ or_null Text f.forwarded ∷ or_null Text f.owner ∷ Int (pos (tags_number f.tags))
    ∷ Int (pos (flag f.archived)) ∷ []

add_call : (k : ℕ) (f : SetFields) → IsCallOf desk_schema add_text (add_params k f) (Insert 1 (Values terms 9))
unfolding understood everything
add_call k f = record { command_is = refl; writes = tt; plain = (refl, refl); whole = omega arith; given = refl }

cast_maybe : (t : Option (List ℕ)) → cast TextKind (or_null Text t) ≡ or_null Text t
cast_maybe None = refl
cast_maybe (Some t) = refl

good_with : (x : SetRow) (f o : Option (List ℕ)) → IsGoodRow desk_schema sets_table (set_cells (record x { forwarded = f; owner = o }))
good_with x None None = record { datatype = λ db. refl; not_null = λ db. refl; check = λ db. refl; keyed = refl }
good_with x None (Some o) = record { datatype = λ db. refl; not_null = λ db. refl; check = λ db. refl; keyed = refl }
good_with x (Some f) None = record { datatype = λ db. refl; not_null = λ db. refl; check = λ db. refl; keyed = refl }
good_with x (Some f) (Some o) = record { datatype = λ db. refl; not_null = λ db. refl; check = λ db. refl; keyed = refl }

accepted : (k : ℕ) (s : SetFields) (f o : Option (List ℕ)) → accepts_terms terms (add_params k (record s { forwarded = f; owner = o })) ≡ true
accepted k s None None = refl
accepted k s None (Some o) = refl
accepted k s (Some f) None = refl
accepted k s (Some f) (Some o) = refl

pub add_is : (k : ℕ) (f : SetFields) → IsSetRow (new_row k f) → IsWrite add_text (add_params k f) (IsFree (PutFields k f)) (edited (PutFields k f))
add_is k f fine = adds_numbered sets set_key (λ x. refl) add_text (add_params k f) terms (PutFields k f) (record {
  text = record { call = add_call k f; typed = accepted k f f.forwarded f.owner; one = λ row. refl };
  new = new_row k f;
  is = λ rows. rw (cast_null, cast_int (pos k), cast_int (pos (rank f.severity)), cast_int (pos (flag f.closed)), cast_maybe f.forwarded, cast_maybe f.owner, cast_int (pos (tags_number f.tags)), cast_int (pos (flag f.archived))) refl;
  good = fine;
  kept = good_with (new_row k f) f.forwarded f.owner;
  more = λ xs c up apart. λ i. record c { fields = λ n. numbered_more fields_of_row set_key n xs (new_row k f) apart i };
  none = λ xs c free. none_said fields_of_row (λ x. x.key == k) xs free.1;
  unkeyed = λ db. refl;
})

-- ---- those of a key go

abbrev clear_text : List ℕ
clear_text = codes "DELETE FROM sets WHERE set_key = ?1"

clear_call : (k : ℕ) → IsCallOf desk_schema clear_text (Int (pos k) ∷ []) (Delete 1 (rowids_of SETS (equals 0 ∷ [])))
unfolding understood everything
clear_call k = record { command_is = refl; writes = tt; plain = (refl, refl); whole = omega arith; given = refl }

hit_key : (k : ℕ) (x : SetRow) → passes (equals 0 ∷ []) (Int (pos k) ∷ []) (set_cells x) ≡ (x.key == k)
hit_key k x = hits 0 (pos k) (set_cells x) ∙ same_number x.key k

pub clear_is : (k : ℕ) → IsWrite clear_text (Int (pos k) ∷ []) (IsFree (DropFields k)) (edited (DropFields k))
clear_is k = clears sets clear_text (Int (pos k) ∷ []) (equals 0 ∷ []) (DropFields k) (record {
  call = clear_call k;
  typed = refl;
  is_hit = λ x. x.key == k;
  hits = hit_key k;
  less = λ xs c. λ i. record c { fields = λ n. numbered_left fields_of_row set_key n k xs i };
})

-- ---- those of a key are read

abbrev read_text : List ℕ
read_text = codes "SELECT package, severity, closed, forwarded, owner, tags, archived FROM sets WHERE set_key = ?1"

abbrev shown_terms : List Term
shown_terms = col 1 2 ∷ col 1 3 ∷ col 1 4 ∷ col 1 5 ∷ col 1 6 ∷ col 1 7 ∷ col 1 8 ∷ []

abbrev names : List (List ℕ)
names = codes "package" ∷ codes "severity" ∷ codes "closed" ∷ codes "forwarded" ∷ codes "owner" ∷ codes "tags" ∷ codes "archived" ∷ []

read_is : (k : ℕ) → IsQueryOf desk_schema read_text (Int (pos k) ∷ []) SETS (equals 0 ∷ []) shown_terms [] names
unfolding understood everything
read_is k = record { command_is = refl; plain = (refl, refl); whole = omega arith; given = refl; unlisted = refl; typed = refl }

are_rows : (o : Option SetRow) → option_map_or (λ (r : Row). r ∷ []) (option_map field_row o) [] ≡ field_rows o
are_rows None = refl
are_rows (Some x) = refl

abbrev pub Rises : List SetRow → Type 0
Rises xs = IsAscending (λ a b. set_key a < set_key b) xs

pub fields_read : (k : ℕ) → IsRead read_text (Int (pos k) ∷ []) (AreFieldsOf k)
fields_read k = asks sets read_text (Int (pos k) ∷ []) (equals 0 ∷ []) shown_terms names (AreFieldsOf k) (record {
  text = read_is k;
  is_hit = λ x. x.key == k;
  hits = hit_key k;
  of = field_row;
  row = λ r. r;
  back = λ r. r;
  same = λ r. refl;
  shows = λ x. refl;
  AreFine = Rises;
  fine = λ s inside live all. rises sets set_key (λ x. refl) s all;
  says = λ xs c up good rows any. record {
    row = last_row (λ x. x.key == k) xs;
    are = one_answer field_row (λ (r : Row). r) (last_row (λ x. x.key == k) xs) (filter (λ x. x.key == k) xs) (one_kept (λ x. x.key == k) xs (one_numbered set_key k xs up)) rows any
        ∙ are_rows (last_row (λ x. x.key == k) xs);
    says = refl;
    good = last_good (λ x. x.key == k) IsSetRow xs good;
  };
})
