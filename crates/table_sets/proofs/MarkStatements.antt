-- What the statements on marks mean.
use Rattle.table_sets.proofs.Imports.{Mark, IsMark, no_marks, with_marked, all_marked, AreMarksOf}
use Rattle.table_schema.proofs.Exports.{◌≡◌, ℕ, ℤ, pos, ◌==◌, ◌&&◌, ◌||◌, Bool, true, false, not, eqb, if◌then◌else◌, List, [], ◌∷◌, ◌++◌, codes, map, filter, refl, sym, ap, ◌∙◌, arith, AllByRecursion, list_any, IsPermutation, ⊤, unwrap_or, All-from_recursion, recursion_from_All, All-permutation, list_any-IsPermutation, Insert, Delete, understood, Row, column, Values, Term, lit, col, Null, Int, Text, everything, Node, IsNode, node, same_node, has_node, Found, Fixed, passes, equals, number_in, rowids_of, IsCallOf, IsQueryOf, all_filter, hits, same_number, and_true, Content, put_at, edited, IsFree, marks_of, kind_number, kind_in, PutMark, DropMarks, text_in, MARKS, desk_schema, MarkRow, mark_cells, IsMarkRow, marked_as, marks_in, mark_rows, same_nodes, marks, keyed_marks, kind_back, cast_int, cast_null, and_assoc, turned, one_more, none_left, apart, IsWrite, IsRead, adds, clears, asks}
use Rattle.version_nodes.specs.declared.statuses.MarkKind.{MarkKind}
use Rattle.bug_record.specs.Marks.{with_node}
use Rattle.table_schema.specs.MarkRows.{with_nodes}
use Rattle.table_sets.specs.Marked.{mark_row}
use Rattle.table_sets.specs.declared.marks.Marks.{Marks}

-- ---- a mark comes

abbrev add_text : List ℕ
add_text = codes "INSERT INTO marks VALUES (?1, ?2, ?3, ?4)"

abbrev terms : List Term
terms = lit Null ∷ col 0 0 ∷ col 0 1 ∷ col 0 2 ∷ col 0 3 ∷ []

abbrev add_params : ℕ → MarkKind → Node → Row
add_params k kind v = Int (pos k) ∷ Int (pos (kind_number kind)) ∷ Text v.source ∷ Text v.version ∷ []

add_call : (k : ℕ) (kind : MarkKind) (v : Node) → IsCallOf desk_schema add_text (add_params k kind v) (Insert 3 (Values terms 5))
unfolding understood everything
add_call k kind v = record { command_is = refl; writes = tt; plain = (refl, refl); whole = omega arith; given = refl }

and_false : (b : Bool) → (b && false) ≡ false
and_false true = refl
and_false false = refl

-- a mark of the kind comes to its key's
same_kind : (xs : List MarkRow) (x : MarkRow) (kind : MarkKind) → (kind_number x.kind == kind_number kind) ≡ true → (n : ℕ)
    → marks_in kind (xs ++ x ∷ []) n ≡ put_at x.key (with_node (marks_in x.kind xs x.key) x.node) (marks_in kind xs) n
same_kind xs x kind is n = one_more mark_rows xs x (n, kind) ∙ ap (λ b. if b then with_node (marks_in x.kind xs x.key) x.node else marks_in kind xs n) (ap (λ b. (x.key == n) && b) is ∙ and_true (x.key == n))

-- one of the other kind leaves them
other_kind : (xs : List MarkRow) (x : MarkRow) (kind : MarkKind) → (kind_number x.kind == kind_number kind) ≡ false → (n : ℕ) → marks_in kind (xs ++ x ∷ []) n ≡ marks_in kind xs n
other_kind xs x kind is n = one_more mark_rows xs x (n, kind) ∙ ap (λ b. if b then with_node (marks_in x.kind xs x.key) x.node else marks_in kind xs n) (ap (λ b. (x.key == n) && b) is ∙ and_false (x.key == n))

more : (k : ℕ) (kind : MarkKind) (v : Node) (xs : List MarkRow) (id : ℤ) (c : Content) → marks.says (xs ++ record { id = id; key = k; kind = kind; node = v } ∷ []) c ≡ edited (PutMark k kind v) (marks.says xs c)
more k Found v xs id c =
    let x : MarkRow = record { id = id; key = k; kind = Found; node = v } in
    λ i. record c { found = λ n. same_kind xs x Found refl n i; fixed = λ n. other_kind xs x Fixed refl n i }
more k Fixed v xs id c =
    let x : MarkRow = record { id = id; key = k; kind = Fixed; node = v } in
    λ i. record c { found = λ n. other_kind xs x Found refl n i; fixed = λ n. same_kind xs x Fixed refl n i }

-- what the rows say of a kind
pub said : (kind : MarkKind) (xs : List MarkRow) (c : Content) (k : ℕ) → marks_of kind (marks.says xs c) k ≡ marks_in kind xs k
said Found xs c k = refl
said Fixed xs c k = refl

pub add_is : (k : ℕ) (kind : MarkKind) (v : Node) → IsNode v → IsWrite add_text (add_params k kind v) (IsFree (PutMark k kind v)) (edited (PutMark k kind v))
add_is k kind v is = adds keyed_marks add_text (add_params k kind v) terms (PutMark k kind v) (record {
  text = record { call = add_call k kind v; typed = refl; one = λ row. refl };
  new = λ id. record { id = id; key = k; kind = kind; node = v };
  own = λ id. refl;
  is = λ rows. rw (cast_null, cast_int (pos k), cast_int (pos (kind_number kind))) refl;
  good = λ id. is;
  kept = λ id. record { datatype = λ db. refl; not_null = λ db. refl; check = λ db. refl; keyed = refl };
  more = more k kind v;
  none = λ xs id c free. apart mark_rows (k, kind) v _ (λ x. and_assoc (eqb x.key k) (kind_number x.kind == kind_number kind) (same_node x.node v)) xs
      (ap (λ ns. has_node ns v) (sym (said kind xs c k)) ∙ free.1);
})

-- ---- those of a key go

abbrev clear_text : List ℕ
clear_text = codes "DELETE FROM marks WHERE set_key = ?1"

clear_call : (k : ℕ) → IsCallOf desk_schema clear_text (Int (pos k) ∷ []) (Delete 3 (rowids_of MARKS (equals 1 ∷ [])))
unfolding understood everything
clear_call k = record { command_is = refl; writes = tt; plain = (refl, refl); whole = omega arith; given = refl }

hit_key : (k : ℕ) (x : MarkRow) → passes (equals 1 ∷ []) (Int (pos k) ∷ []) (mark_cells x) ≡ (x.key == k)
hit_key k x = hits 1 (pos k) (mark_cells x) ∙ same_number x.key k

less : (k : ℕ) (kind : MarkKind) (xs : List MarkRow) (n : ℕ) → marks_in kind (filter (λ x. not (x.key == k)) xs) n ≡ put_at k [] (marks_in kind xs) n
less k kind xs n = none_left mark_rows (λ x. x.key == k) (λ o. k == o.0) (λ x. turned x.key k) xs (n, kind)

pub clear_is : (k : ℕ) → IsWrite clear_text (Int (pos k) ∷ []) (IsFree (DropMarks k)) (edited (DropMarks k))
clear_is k = clears marks clear_text (Int (pos k) ∷ []) (equals 1 ∷ []) (DropMarks k) (record {
  call = clear_call k;
  typed = refl;
  is_hit = λ x. x.key == k;
  hits = hit_key k;
  less = λ xs c. λ i. record c { found = λ n. less k Found xs n i; fixed = λ n. less k Fixed xs n i };
})

-- ---- those of a key are read

abbrev read_text : List ℕ
read_text = codes "SELECT kind, source, version FROM marks WHERE set_key = ?1"

abbrev shown_terms : List Term
shown_terms = col 1 2 ∷ col 1 3 ∷ col 1 4 ∷ []

abbrev names : List (List ℕ)
names = codes "kind" ∷ codes "source" ∷ codes "version" ∷ []

read_is : (k : ℕ) → IsQueryOf desk_schema read_text (Int (pos k) ∷ []) MARKS (equals 1 ∷ []) shown_terms [] names
unfolding understood everything
read_is k = record { command_is = refl; plain = (refl, refl); whole = omega arith; given = refl; unlisted = refl; typed = refl }

abbrev mark_back : Row → Mark
mark_back r = record { kind = unwrap_or (kind_in (number_in (column r 0))) Found; node = node (text_in (column r 1)) (text_in (column r 2)) }

back_is : (m : Mark) → mark_back (mark_row m) ≡ m
back_is m = ap (λ o. let n : Mark = record { kind = unwrap_or o Found; node = m.node } in n) (kind_back m.kind)

-- ---- the nodes of the marks of a kind

abbrev nodes_as : MarkKind → List Mark → List Node
nodes_as kind ms = map (λ (m : Mark). m.node) (filter (λ m. kind_number m.kind == kind_number kind) ms)

all_found : (s : Marks) (ms : List Mark) → (all_marked s ms).found ≡ with_nodes s.found (nodes_as Found ms)
all_found s [] = refl
all_found s (m ∷ ms) = go m.kind refl (λ t. all_found t ms)
  where
    go : (kind : MarkKind) → m.kind ≡ kind → ((t : Marks) → (all_marked t ms).found ≡ with_nodes t.found (nodes_as Found ms)) → (all_marked s (m ∷ ms)).found ≡ with_nodes s.found (nodes_as Found (m ∷ ms))
    go Found is more = rw is (more (with_marked s Found m.node))
    go Fixed is more = rw is (more (with_marked s Fixed m.node))

all_fixed : (s : Marks) (ms : List Mark) → (all_marked s ms).fixed ≡ with_nodes s.fixed (nodes_as Fixed ms)
all_fixed s [] = refl
all_fixed s (m ∷ ms) = go m.kind refl (λ t. all_fixed t ms)
  where
    go : (kind : MarkKind) → m.kind ≡ kind → ((t : Marks) → (all_marked t ms).fixed ≡ with_nodes t.fixed (nodes_as Fixed ms)) → (all_marked s (m ∷ ms)).fixed ≡ with_nodes s.fixed (nodes_as Fixed (m ∷ ms))
    go Found is more = rw is (more (with_marked s Found m.node))
    go Fixed is more = rw is (more (with_marked s Fixed m.node))

abbrev is_at : MarkKind → Node → Mark → Bool
is_at kind v m = kind_number m.kind == kind_number kind && same_node v m.node

has_any : (kind : MarkKind) (v : Node) (ms : List Mark) → has_node (nodes_as kind ms) v ≡ list_any (is_at kind v) ms
has_any kind v [] = refl
has_any kind v (m ∷ ms) = go (kind_number m.kind == kind_number kind) refl (has_any kind v ms)
  where
    go : (b : Bool) → (kind_number m.kind == kind_number kind) ≡ b → has_node (nodes_as kind ms) v ≡ list_any (is_at kind v) ms → has_node (nodes_as kind (m ∷ ms)) v ≡ list_any (is_at kind v) (m ∷ ms)
    go true is h = rw is (ap (λ b. same_node v m.node || b) h)
    go false is h = rw is h

-- marks in another order have the same nodes
same_as : (kind : MarkKind) (ms ns : List Mark) → IsPermutation ms ns → with_nodes [] (nodes_as kind ns) ≡ with_nodes [] (nodes_as kind ms)
same_as kind ms ns same = same_nodes (nodes_as kind ns) (nodes_as kind ms) (λ v. has_any kind v ns ∙ sym (list_any-IsPermutation (is_at kind v) ms ns same) ∙ sym (has_any kind v ms))

-- ---- the marks of the rows of a key

abbrev mark_of : MarkRow → Mark
mark_of x = record { kind = x.kind; node = x.node }

abbrev of_key : ℕ → List MarkRow → List Mark
of_key k xs = map mark_of (filter (λ x. x.key == k) xs)

nodes_of : (kind : MarkKind) (k : ℕ) (xs : List MarkRow) → nodes_as kind (of_key k xs) ≡ marked_as kind k xs
nodes_of kind k [] = refl
nodes_of kind k (x ∷ xs) = go (x.key == k) (kind_number x.kind == kind_number kind) refl refl (nodes_of kind k xs)
  where
    go : (p q : Bool) → (x.key == k) ≡ p → (kind_number x.kind == kind_number kind) ≡ q → nodes_as kind (of_key k xs) ≡ marked_as kind k xs → nodes_as kind (of_key k (x ∷ xs)) ≡ marked_as kind k (x ∷ xs)
    go true true is same h = simp (is, same) (ap (λ ns. x.node ∷ ns) h)
    go true false is same h = simp (is, same) h
    go false q is same h = simp is h

valid_of : (xs : List MarkRow) → AllByRecursion IsMarkRow xs → AllByRecursion IsMark (map mark_of xs)
valid_of [] h = tt
valid_of (x ∷ xs) h = (h.0, valid_of xs h.1)

-- what is answered is the marks that the tables say
are_marks : (k : ℕ) (c : Content) (xs : List MarkRow) (ms : List Mark) → AllByRecursion IsMarkRow xs → IsPermutation (of_key k xs) ms
    → c.found k ≡ with_nodes [] (marked_as Found k xs) → c.fixed k ≡ with_nodes [] (marked_as Fixed k xs) → AreMarksOf k c ms
are_marks k c xs ms good same in_found in_fixed =
    let in_order = valid_of _ (all_filter IsMarkRow (λ x. x.key == k) xs good) in
    let founds = all_found no_marks ms ∙ same_as Found (of_key k xs) ms same ∙ ap (with_nodes []) (nodes_of Found k xs) ∙ sym in_found in
    let fixeds = all_fixed no_marks ms ∙ same_as Fixed (of_key k xs) ms same ∙ ap (with_nodes []) (nodes_of Fixed k xs) ∙ sym in_fixed in
    record {
      valid = recursion_from_All IsMark ms (All-permutation IsMark _ ms same (All-from_recursion IsMark _ in_order));
      all = λ i. record { found = founds i; fixed = fixeds i };
    }

pub marks_read : (k : ℕ) → IsRead read_text (Int (pos k) ∷ []) (λ c rows. (ms : List Mark) × (rows ≡ map mark_row ms) × AreMarksOf k c ms)
marks_read k = asks marks read_text (Int (pos k) ∷ []) (equals 1 ∷ []) shown_terms names _ (record {
  text = read_is k;
  is_hit = λ x. x.key == k;
  hits = hit_key k;
  of = mark_of;
  row = mark_row;
  back = mark_back;
  same = back_is;
  shows = λ x. refl;
  AreFine = λ xs. ⊤;
  fine = λ s inside live all. tt;
  says = λ xs c fine good ms any. (ms, refl, are_marks k _ xs ms good any refl refl);
})
