-- What the statements on bugs mean.
use Rattle.table_sets.proofs.Imports.{member_row, HasUtf8, AreMemberRows}
use Rattle.table_schema.proofs.Exports.{◌≡◌, ℕ, pos, ◌==◌, ◌<◌, false, List, [], ◌∷◌, codes, map, filter, Less, refl, sym, ap, subst, ◌∙◌, arith, IsPermutation, IsSorted, option_map_or, IsUtf8, nat_tests, ints, Insert, Delete, understood, Row, value_cmp, Query, Output, output, output_cmp, Values, Term, lit, col, Null, Int, Text, everything, all_weaker, ascending-map, ascending-filter, ascending_weaker, sorted_unique, IsAscending, Key, Binary, value_cmp-Int, then-Equal, map_map, Member, passes, equals, query_of, number_row, number_at_front, rowids_of, IsCallOf, IsQueryOf, kept_rows, hits, same_number, Content, edited, IsFree, PutMember, DropMember, BUGS, desk_schema, BugRow, bug_cells, IsBugRow, member_of, members_in, Rises, bug_number, member_added, member_dropped, all_members, bugs, last_row, cast_int, cast_null, numbered_more, numbered_left, none_said, one_kept, one_numbered, IsWrite, IsRead, seen_is, clears, adds_numbered, rises, asks, one_answer, reads_plain}
use Rattle.sqlite_sql.proofs.QueryLemmas.{output_cmp_total}

-- ---- a bug comes

abbrev add_text : List ℕ
add_text = codes "INSERT INTO bugs VALUES (?1, ?2, ?3, ?4)"

abbrev terms : List Term
terms = col 0 0 ∷ lit Null ∷ col 0 1 ∷ col 0 2 ∷ col 0 3 ∷ []

abbrev add_params : ℕ → Member → Row
add_params k m = Int (pos m.number) ∷ Int (pos k) ∷ Text m.title ∷ Text m.submitter ∷ []

add_call : (k : ℕ) (m : Member) → IsCallOf desk_schema add_text (add_params k m) (Insert 2 (Values terms 5))
unfolding understood everything
add_call k m = record { command_is = refl; writes = tt; plain = (refl, refl); whole = omega arith; given = refl }

abbrev new_bug : ℕ → Member → BugRow
new_bug k m = record { number = m.number; key = k; title = m.title; submitter = m.submitter }

pub add_is : (k : ℕ) (m : Member) → IsUtf8 m.title → IsUtf8 m.submitter → IsWrite add_text (add_params k m) (IsFree (PutMember k m)) (edited (PutMember k m))
add_is k m title submitter = adds_numbered bugs bug_number (λ x. refl) add_text (add_params k m) terms (PutMember k m) (record {
  text = record { call = add_call k m; typed = refl; one = λ row. refl };
  new = new_bug k m;
  is = λ rows. rw (cast_null, cast_int (pos m.number), cast_int (pos k)) refl;
  good = record { title = title; submitter = submitter };
  kept = record { datatype = λ db. refl; not_null = λ db. refl; check = λ db. refl; keyed = refl };
  more = λ xs c up apart. λ i. record c { key = λ n. numbered_more (λ (x : BugRow). x.key) bug_number n xs (new_bug k m) apart i; members = member_added xs (new_bug k m) up i };
  none = λ xs c free. none_said (λ (x : BugRow). x.key) (λ x. x.number == m.number) xs free.2;
  unkeyed = λ db. refl;
})

-- ---- a bug goes

abbrev clear_text : List ℕ
clear_text = codes "DELETE FROM bugs WHERE number = ?1"

clear_call : (n : ℕ) → IsCallOf desk_schema clear_text (Int (pos n) ∷ []) (Delete 2 (rowids_of BUGS (equals 0 ∷ [])))
unfolding understood everything
clear_call n = record { command_is = refl; writes = tt; plain = (refl, refl); whole = omega arith; given = refl }

hit_number : (n : ℕ) (x : BugRow) → passes (equals 0 ∷ []) (Int (pos n) ∷ []) (bug_cells x) ≡ (x.number == n)
hit_number n x = hits 0 (pos n) (bug_cells x) ∙ same_number x.number n

pub clear_is : (n : ℕ) → IsWrite clear_text (Int (pos n) ∷ []) (IsFree (DropMember n)) (edited (DropMember n))
clear_is n = clears bugs clear_text (Int (pos n) ∷ []) (equals 0 ∷ []) (DropMember n) (record {
  call = clear_call n;
  typed = refl;
  is_hit = λ x. x.number == n;
  hits = hit_number n;
  less = λ xs c. λ i. record c { key = λ m. numbered_left (λ (x : BugRow). x.key) bug_number m n xs i; members = member_dropped n xs i };
})

-- ---- the key of a bug is read

abbrev key_text : List ℕ
key_text = codes "SELECT set_key FROM bugs WHERE number = ?1"

key_is : (n : ℕ) → IsQueryOf desk_schema key_text (Int (pos n) ∷ []) BUGS (equals 0 ∷ []) (col 1 2 ∷ []) [] (codes "set_key" ∷ [])
unfolding understood everything
key_is n = record { command_is = refl; plain = (refl, refl); whole = omega arith; given = refl; unlisted = refl; typed = refl }

pub key_read : (n : ℕ) → IsRead key_text (Int (pos n) ∷ []) (λ c rows. rows ≡ option_map_or (λ k. number_row k ∷ []) (c.key n) [])
key_read n = asks bugs key_text (Int (pos n) ∷ []) (equals 0 ∷ []) (col 1 2 ∷ []) (codes "set_key" ∷ []) _ (record {
  text = key_is n;
  is_hit = λ x. x.number == n;
  hits = hit_number n;
  of = λ x. x.key;
  row = number_row;
  back = number_at_front;
  same = λ k. refl;
  shows = λ x. refl;
  AreFine = Rises;
  fine = λ s inside live all. rises bugs bug_number (λ x. refl) s all;
  says = λ xs c up good keys any. one_answer (λ (x : BugRow). x.key) number_row (last_row (λ x. x.number == n) xs) (filter (λ x. x.number == n) xs)
      (one_kept (λ x. x.number == n) xs (one_numbered bug_number n xs up)) keys any;
})

-- ---- the bugs of a key are read, in order

abbrev members_text : List ℕ
members_text = codes "SELECT number, title, submitter FROM bugs WHERE set_key = ?1 ORDER BY number"

abbrev cells_shown : List Term
cells_shown = col 1 0 ∷ col 1 3 ∷ col 1 4 ∷ []

abbrev by_number : List (Term × Key)
by_number = (col 1 0, record { collation = Binary; descending = false }) ∷ []

abbrev asked : Query
asked = query_of BUGS (equals 2 ∷ []) cells_shown by_number

members_is : (k : ℕ) → IsQueryOf desk_schema members_text (Int (pos k) ∷ []) BUGS (equals 2 ∷ []) cells_shown by_number (codes "number" ∷ codes "title" ∷ codes "submitter" ∷ [])
unfolding understood everything
members_is k = record { command_is = refl; plain = (refl, refl); whole = omega arith; given = refl; unlisted = refl; typed = refl }

-- whether a row has the key
hit_key : (k : ℕ) (x : BugRow) → passes (equals 2 ∷ []) (Int (pos k) ∷ []) (bug_cells x) ≡ (x.key == k)
hit_key k x = hits 2 (pos k) (bug_cells x) ∙ same_number x.key k

-- ---- the rows stand in the order that is asked for

abbrev pair_of : BugRow → Output
pair_of x = (number_row x.number, member_row (member_of x))

lower : (x y : BugRow) → x.number < y.number → output_cmp asked (pair_of x) (pair_of y) ≡ Less
lower x y low = then-Equal (value_cmp (Int (pos x.number)) (Int (pos y.number))) ∙ value_cmp-Int (pos x.number) (pos y.number) ∙ grind (arith, ints, nat_tests, low)

abbrev of_key : ℕ → List BugRow → List BugRow
of_key k xs = filter (λ x. x.key == k) xs

rising : (k : ℕ) (xs : List BugRow) → Rises xs → IsAscending (λ a b. output_cmp asked a b ≡ Less) (map pair_of (of_key k xs))
rising k xs up = ascending-map (λ a b. output_cmp asked a b ≡ Less) pair_of (of_key k xs)
    (ascending-filter (λ x y. output_cmp asked (pair_of x) (pair_of y) ≡ Less) (λ x. x.key == k) xs
    (ascending_weaker (λ x y. x.number < y.number) (λ x y. output_cmp asked (pair_of x) (pair_of y) ≡ Less) lower xs up))

outputs : (k : ℕ) (xs : List BugRow) → map (λ r. output asked ((Int (pos k) ∷ []) ∷ r ∷ [])) (filter (passes (equals 2 ∷ []) (Int (pos k) ∷ [])) (map bug_cells xs)) ≡ map pair_of (of_key k xs)
outputs k xs =
    ap (map (λ r. output asked ((Int (pos k) ∷ []) ∷ r ∷ []))) (kept_rows bug_cells (passes (equals 2 ∷ []) (Int (pos k) ∷ [])) (λ x. x.key == k) (hit_key k) xs)
    ∙ map_map bug_cells _ _

in_order : (k : ℕ) (xs : List BugRow) (ordered : List Output) → Rises xs → IsPermutation (map pair_of (of_key k xs)) ordered → IsSorted (output_cmp asked) ordered
    → map (λ o. o.1) ordered ≡ map member_row (members_in xs k)
in_order k xs ordered up same sorted =
    ap (map (λ (o : Output). o.1)) (sorted_unique (output_cmp asked) (output_cmp_total asked) _ ordered (rising k xs up) same sorted)
    ∙ map_map pair_of (λ (o : Output). o.1) (of_key k xs) ∙ sym (map_map member_of member_row (of_key k xs))

utf8 : (x : BugRow) → IsBugRow x → HasUtf8 (member_of x)
utf8 x good = record { title = good.title; submitter = good.submitter }

pub members_read : (k : ℕ) → IsRead members_text (Int (pos k) ∷ []) (λ c rows. AreMemberRows rows (c.members k))
members_read k = reads_plain members_text (Int (pos k) ∷ []) BUGS (equals 2 ∷ []) cells_shown by_number _ (members_is k) _ (λ s rows all f.
    let shown = all.bugs in
    let shows = λ (r : Row). output asked ((Int (pos k) ∷ []) ∷ r ∷ []) in
    let p = passes (equals 2 ∷ []) (Int (pos k) ∷ []) in
    let same = subst (λ os. IsPermutation os f.ordered) (ap (λ rs. map shows (filter p rs)) shown.are ∙ outputs k shown.items) f.same in
    subst (λ (g : ℕ → List Member). AreMemberRows rows (g k)) (sym (ap (λ (c : Content). c.members) (seen_is bugs s all))) (record {
      are = f.is ∙ in_order k shown.items f.ordered (rises bugs bug_number (λ x. refl) s all) same f.sorted;
      good = all_members HasUtf8 k shown.items (all_weaker IsBugRow (λ x. HasUtf8 (member_of x)) utf8 shown.items shown.good);
    }))
