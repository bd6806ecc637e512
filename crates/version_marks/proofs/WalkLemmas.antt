-- What holds of the rows on the way down from the marks.
use Rattle.std.proofs.Common.{◌≡◌, ℕ, ◌+◌, ◌-◌, ◌<◌, ◌≤◌, Bool, true, false, cond, not, ◌||◌, ◌&&◌, List, [], ◌∷◌, ◌++◌, length}
use Rattle.std.proofs.Common.{Option, Some, None, is_some, Result, Ok, Err, OnOk, get_or, append_assoc, append-nil, sym, refl, ap, ◌∙◌, subst, ⊎_elim, arith}
use Rattle.std.specs.Prelude.{option_map, slice_get}
use Rattle.std.proofs.lemmas.Bool.{cases_Bool, false≢true}
use Rattle.std.proofs.lemmas.List.{length-append, length-map}
use Rattle.std.proofs.lemmas.Map.Steps.{length-le_from_keys}
use Rattle.std.proofs.lemmas.Option.{none-some, slice_get_past, slice_get_read}
use Rattle.std.specs.BTreeMap.{BTreeMap, get, is_at}
use Rattle.std.specs.BTreeSet.{BTreeSet, contains}
use Rattle.std.specs.Cmp.{eq_by_cmp_equiv}
use Rattle.std.specs.List.{list_any}
use Rattle.std.specs.List.Sorted.{IsStrictlySortedBy}
use Rattle.std.specs.Map.{keys_of}
use Rattle.std.specs.Option.{option_and_then, option_map_or, option_or}
use Rattle.std.specs.Ordering.{eq_by_cmp}
use Rattle.version_nodes.specs.Nodes.{Node, same_node, node_cmp}
use Rattle.version_nodes.specs.NodeLaws.{node_cmp_total, node_ties}
use Rattle.version_nodes.specs.Trees.{Ancestry, IsForest, IsLine, has_node, knows, parent_of, line}
use Rattle.ancestry.specs.Links.{has_parent}
use Rattle.version_nodes.specs.Statuses.{first_marked, kind_at}
use Rattle.version_nodes.specs.declared.statuses.MarkKind.{MarkKind}
use Rattle.version_nodes.proofs.NodeLemmas.{same_true, same_itself, ties_same}
use Rattle.ancestry.proofs.LineLemmas.{unknown_has_none}
use Rattle.version_marks.specs.Nearest.{own_mark, nearest_on, nearest_of, row_at, once}
use Rattle.version_marks.specs.Walks.{is_marked, AreMarks, rows_of_marks, rows_below, Step}
use Rattle.version_marks.specs.declared.near.Near.{Near}
use Rattle.version_marks.specs.declared.near.NearRow.{NearRow}
use Rattle.version_marks.proofs.LineLemmas.{by_parent}
use Rattle.version_marks.proofs.MarkLemmas.{at_marks, once_marks}
use Rattle.version_marks.proofs.RowLemmas.{has_row, both_true, row_append, has_front, has_back, has_either, has_own, is_own}
use Rattle.version_marks.proofs.RowLemmas.{once_append, own_row, not_in_front, nodes_of, has_nodes_of, distinct_nodes, at_below, once_below}

-- where a node in the front came from: it is marked, or its parent's row was looked at
pub record Came (t : Ancestry) (front : List NearRow) (c : Node) : Type 0 where
  pub parent : Node
  pub is : parent_of t c ≡ Some parent
  pub has : has_row front parent ≡ true

-- The rows of the front were looked at, and their children have rows.
pub record Walked (t : Ancestry) (found fixed : List Node) (front rows : List NearRow) : Type 0 where
  pub apart : once rows
  pub right : (v : Node) (near : Near) → row_at rows v ≡ Some near → nearest_of t found fixed v ≡ Some near
  pub marks : (v : Node) → is_marked found fixed v ≡ true → knows t v ≡ true → has_row rows v ≡ true
  pub closed : (p c : Node) → has_row front p ≡ true → parent_of t c ≡ Some p → has_row rows c ≡ true
  pub came : (c : Node) → has_row rows c ≡ true → is_marked found fixed c ≡ false → Came t front c

-- and they are so many
pub record Walk (t : Ancestry) (found fixed : List Node) (rows : List NearRow) (place : ℕ) : Type 0 where
  pub front : List NearRow
  pub rest : List NearRow
  pub is : rows ≡ front ++ rest
  pub far : length front ≡ place
  pub walked : Walked t found fixed front rows

is_parent_of : (p : Node) (o : Option Node) → option_map_or (same_node p) o false ≡ true → o ≡ Some p
is_parent_of p None h = absurd (false≢true h)
is_parent_of p (Some q) h = ap Some (sym (same_true p q h))

knows_child : (t : Ancestry) (c p : Node) → parent_of t c ≡ Some p → knows t c ≡ true
knows_child t c p h = ⊎_elim (λ k. k) (λ off. absurd (none-some p (sym (unknown_has_none t c off) ∙ h))) (cases_Bool (knows t c))

seen_known : (t : Ancestry) (found fixed : List Node) (v : Node) (near : Near) → nearest_of t found fixed v ≡ Some near → knows t v ≡ true
seen_known t found fixed v near h = at (knows t v) h
  where
    at : (b : Bool) → cond b (nearest_on found fixed (line t v)) None ≡ Some near → b ≡ true
    at true h = refl
    at false h = absurd (none-some near h)

some_of : {A : Type 0} (P : Type 0) (o : Option A) → is_some o ≡ true → ((x : A) → o ≡ Some x → P) → P
some_of P None h f = absurd (false≢true h)
some_of P (Some x) h f = f x refl

module _ (t : Ancestry) (found fixed : List Node) (forest : IsForest t) where
  -- ---- one row is looked at

  module _ (front rest : List NearRow) (r : NearRow) (marked : Node → Bool) (kids : List Node)
      (w : Walked t found fixed front (front ++ r ∷ rest)) (same : (v : Node) → marked v ≡ is_marked found fixed v)
      (sorted : IsStrictlySortedBy node_cmp kids) (are : (c : Node) → has_node kids c ≡ has_parent t c (Some r.node)) where
    abbrev all : List NearRow
    all = front ++ r ∷ rest

    abbrev more : List NearRow
    more = rows_below marked r.near kids

    more_is : (c : Node) → row_at more c ≡ cond (has_parent t c (Some r.node) && not (is_marked found fixed c)) (Some r.near) None
    more_is c =
        at_below marked r.near kids c
        ∙ ap (λ b. cond (b && not (marked c)) (Some r.near) None) (are c)
        ∙ ap (λ b. cond (has_parent t c (Some r.node) && not b) (Some r.near) None) (same c)

    -- a new row is that of a child that isn't marked
    more_child : (c : Node) → has_row more c ≡ true → (parent_of t c ≡ Some r.node) × (is_marked found fixed c ≡ false)
    more_child c h =
        let two = both_true _ _ (is_true (has_parent t c (Some r.node) && not (is_marked found fixed c)) (sym (ap is_some (more_is c)) ∙ h)) in
        (is_parent_of r.node (parent_of t c) two.0, not_true (is_marked found fixed c) two.1)
      where
        is_true : (b : Bool) → is_some (cond b (Some r.near) None) ≡ true → b ≡ true
        is_true true h = refl
        is_true false h = absurd (false≢true h)

        not_true : (a : Bool) → not a ≡ true → a ≡ false
        not_true true h = absurd (false≢true h)
        not_true false h = refl

    more_near : (c : Node) (near : Near) → row_at more c ≡ Some near → near ≡ r.near
    more_near c near h = at (has_parent t c (Some r.node) && not (is_marked found fixed c)) (sym (more_is c) ∙ h)
      where
        at : (b : Bool) → cond b (Some r.near) None ≡ Some near → near ≡ r.near
        at true h = cc
        at false h = absurd (none-some near h)

    child_more : (c : Node) → parent_of t c ≡ Some r.node → is_marked found fixed c ≡ false → has_row more c ≡ true
    child_more c e off =
        ap is_some (more_is c)
        ∙ ap (λ b. is_some (cond (b && not (is_marked found fixed c)) (Some r.near) None))
        (ap (λ o. option_map_or (same_node r.node) o false) e ∙ same_itself r.node)
        ∙ ap (λ b. is_some (cond (not b) (Some r.near) None)) off

    -- and had none
    more_new : (c : Node) → has_row more c ≡ true → has_row all c ≡ false
    more_new c h =
        ⊎_elim
        (λ had.
        let child = more_child c h in
        let from = w.came c had child.1 in
        let one : from.parent ≡ r.node = cc (from.is, child.0) in
        absurd (false≢true (sym (not_in_front r rest front w.apart) ∙ ap (has_row front) (sym one) ∙ from.has)))
        (λ no. no) (cases_Bool (has_row all c))

    more_right : (v : Node) (near : Near) → row_at more v ≡ Some near → nearest_of t found fixed v ≡ Some near
    more_right v near h =
        let child = more_child v (ap is_some h) in
        by_parent found fixed t v forest (knows_child t v r.node child.0)
        ∙ ap (λ b. cond b (Some (own_mark found v)) (option_and_then (nearest_of t found fixed) (parent_of t v))) child.1
        ∙ ap (option_and_then (nearest_of t found fixed)) child.0
        ∙ w.right r.node r.near (own_row r rest front w.apart)
        ∙ ap Some (sym (more_near v near h))

    walked_on : Walked t found fixed (front ++ r ∷ []) (all ++ more)
    walked_on = record {
      apart = once_append all more w.apart (once_below marked r.near kids sorted) more_new;
      right = λ v near h. at v near (row_at all v) refl (sym (row_append all more v) ∙ h);
      marks = λ v m k. has_front all more v (w.marks v m k);
      closed = λ p c h e.
          has_either front (r ∷ []) p h
          (λ before. has_front all more c (w.closed p c before e))
          (λ now. child_has c (e ∙ ap Some (is_own r p now)));
      came = λ c h off.
          has_either all more c h
          (λ had. let from = w.came c had off in
          record { parent = from.parent; is = from.is; has = has_front front (r ∷ []) from.parent from.has })
          (λ new. record { parent = r.node; is = (more_child c new).0; has = has_back front (r ∷ []) r.node (has_own r) });
    }
      where
        at : (v : Node) (near : Near) (o : Option Near) → row_at all v ≡ o → option_or o (row_at more v) ≡ Some near
            → nearest_of t found fixed v ≡ Some near
        at v near (Some n) e h = w.right v near (e ∙ h)
        at v near None e h = more_right v near h

        child_has : (c : Node) → parent_of t c ≡ Some r.node → has_row (all ++ more) c ≡ true
        child_has c e =
            ⊎_elim
            (λ m. has_front all more c (w.marks c m (knows_child t c r.node e)))
            (λ off. has_back all more c (child_more c e off))
            (cases_Bool (is_marked found fixed c))

  -- ---- the beginning

  module _ (marks : BTreeMap Node MarkKind) (are : AreMarks found fixed marks) where
    abbrev begun : List NearRow
    begun = rows_of_marks t marks.entries

    begun_at : (v : Node) → row_at begun v ≡ cond (knows t v) (cond (is_marked found fixed v) (Some (own_mark found v)) None) None
    begun_at v =
        at_marks t marks.entries v
        ∙ ap (λ o. cond (knows t v) (option_map (λ kind. record { mark = v; kind = kind }) o) None) (are v)
        ∙ ap (λ o. cond (knows t v) o None) (elim (is_marked found fixed v)
        as (λ b. option_map (λ kind. record { mark = v; kind = kind }) (cond b (Some (kind_at found v)) None)
        ≡ cond b (Some (own_mark found v)) None) [ true ↦ refl | false ↦ refl ])

    begins : IsStrictlySortedBy node_cmp (keys_of marks.entries) → Walked t found fixed [] begun
    begins sorted = record {
      apart = once_marks t marks.entries sorted;
      right = λ v near h. right v near (knows t v) refl (is_marked found fixed v) refl (sym (begun_at v) ∙ h);
      marks = λ v m k.
          ap is_some (begun_at v ∙ ap (λ b. cond b (cond (is_marked found fixed v) (Some (own_mark found v)) None) None) k
          ∙ ap (λ b. cond b (Some (own_mark found v)) None) m);
      closed = λ p c h e. absurd (false≢true h);
      came = λ c h off.
          absurd (false≢true (sym (ap is_some (begun_at c
          ∙ ap (λ b. cond (knows t c) (cond b (Some (own_mark found c)) None) None) off) ∙ none c (knows t c)) ∙ h));
    }
      where
        none : (c : Node) (b : Bool) → is_some (cond b (cond false (Some (own_mark found c)) None) None) ≡ false
        none c true = refl
        none c false = refl

        right : (v : Node) (near : Near) (k : Bool) → knows t v ≡ k → (m : Bool) → is_marked found fixed v ≡ m
            → cond k (cond m (Some (own_mark found v)) None) None ≡ Some near → nearest_of t found fixed v ≡ Some near
        right v near true k true m h =
            by_parent found fixed t v forest k
            ∙ ap (λ b. cond b (Some (own_mark found v)) (option_and_then (nearest_of t found fixed) (parent_of t v))) m ∙ h
        right v near true k false m h = absurd (none-some near h)
        right v near false k m e h = absurd (none-some near h)

    pub walk_begins : (rows : List NearRow) → rows ≡ begun → IsStrictlySortedBy node_cmp (keys_of marks.entries) → Walk t found fixed rows 0
    walk_begins rows is sorted = record {
      front = [];
      rest = rows;
      is = refl;
      far = refl;
      walked = subst (Walked t found fixed []) (sym is) (begins sorted);
    }

    -- ---- the way down

    pub walk_goes : (rows rows' : List NearRow) (place : ℕ) → Walk t found fixed rows place
        → Step t (λ c. is_some (get node_cmp marks c)) rows place rows' → Walk t found fixed rows' (place + 1)
    walk_goes rows rows' place w s = at_rest w.rest w.is
      where
        there : (front rest : List NearRow) (r : NearRow) → slice_get (front ++ r ∷ rest) (length front) ≡ Some r
        there [] rest r = refl
        there (f ∷ front) rest r = there front rest r

        same : (v : Node) → is_some (get node_cmp marks v) ≡ is_marked found fixed v
        same v =
            ap is_some (are v)
            ∙ elim (is_marked found fixed v) as (λ b. is_some (cond b (Some (kind_at found v)) None) ≡ b) [ true ↦ refl | false ↦ refl ]

        at_rest : (rest : List NearRow) → rows ≡ w.front ++ rest → Walk t found fixed rows' (place + 1)
        at_rest [] is =
            let past = slice_get_past rows place (omega (arith, ap length is, length-append w.front [], w.far)) in
            absurd (none-some s.row (sym past ∙ s.at))
        at_rest (r ∷ rest) is =
            let here : r ≡ s.row = some_same (sym (there w.front rest r) ∙ ap (slice_get (w.front ++ r ∷ rest)) w.far
            ∙ ap (λ xs. slice_get xs place) (sym is) ∙ s.at) in
            let on = walked_on w.front rest r (λ c. is_some (get node_cmp marks c)) s.children
            (subst (Walked t found fixed w.front) is w.walked) same s.sorted
            (subst (λ (z : NearRow). (c : Node) → has_node s.children c ≡ has_parent t c (Some z.node)) (sym here) s.are) in
            let more = rows_below (λ c. is_some (get node_cmp marks c)) r.near s.children in
            let made : rows' ≡ (w.front ++ r ∷ rest) ++ more =
            s.made ∙ ap (λ xs. xs ++ rows_below (λ c. is_some (get node_cmp marks c)) s.row.near s.children) is
            ∙ ap (λ (z : NearRow). (w.front ++ r ∷ rest) ++ rows_below (λ c. is_some (get node_cmp marks c)) z.near s.children) (sym here) in
            record {
              front = w.front ++ r ∷ [];
              rest = rest ++ more;
              is = made ∙ append_assoc w.front (r ∷ rest) more ∙ sym (append_assoc w.front (r ∷ []) (rest ++ more));
              far = length-append w.front (r ∷ []) ∙ ap (λ n. n + 1) w.far;
              walked = subst (Walked t found fixed (w.front ++ r ∷ [])) (sym made) on;
            }
          where
            some_same : {A : Type 0} {a b : A} → Some a ≡ Some b → a ≡ b
            some_same h = cc

  -- ---- that it ends

  -- each row is that of another known node
  pub rows_fit : (rows : List NearRow) (place : ℕ) → Walk t found fixed rows place → length rows ≤ length t
  rows_fit rows place w =
      subst (λ n. n ≤ length t) (length-map rows (λ row. row.node))
      (length-le_from_keys (eq_by_cmp_equiv node_cmp_total) (nodes_of rows) t (distinct_nodes rows w.walked.apart)
      (λ q h. known q (sym (has_nodes_of rows q) ∙ sym (same_tests q (nodes_of rows)) ∙ h)))
    where
      same_tests : (q : Node) (ms : List Node) → list_any (eq_by_cmp node_cmp q) ms ≡ has_node ms q
      same_tests q [] = refl
      same_tests q (m ∷ ms) = λ i. sym (node_ties q m) i || same_tests q ms i

      known : (q : Node) → has_row rows q ≡ true → knows t q ≡ true
      known q h = some_of (knows t q ≡ true) (row_at rows q) h (λ near e. seen_known t found fixed q near (w.walked.right q near e))

  pub walk_shorter : (rows : List NearRow) (place : ℕ) → Walk t found fixed rows place → place < length rows
      → length t - (place + 1) < length t - place
  walk_shorter rows place w l = omega (arith, rows_fit rows place w, l)

  -- ---- and what it comes to

  module _ (rows : List NearRow) (w : Walked t found fixed rows rows) where
    -- each known node that sees a mark has a row
    complete : (v : Node) (ns : List Node) → IsLine t v ns → knows t v ≡ true → is_some (first_marked found fixed ns) ≡ true
        → has_row rows v ≡ true
    complete v [] h k m = absurd h
    complete v (n ∷ []) h k m =
        w.marks v (subst (λ (z : Node). is_marked found fixed z ≡ true) h.0 (at (is_marked found fixed n) m)) k
      where
        at : (b : Bool) → is_some (cond b (Some n) None) ≡ true → b ≡ true
        at true m = refl
        at false m = absurd (false≢true m)
    complete v (n ∷ p ∷ ns) h k m =
        at (complete p (p ∷ ns) h.2 (forest.parents v p h.1)) (is_marked found fixed n) refl m
      where
        at : (is_some (first_marked found fixed (p ∷ ns)) ≡ true → has_row rows p ≡ true) → (b : Bool) → is_marked found fixed n ≡ b
            → is_some (cond b (Some n) (first_marked found fixed (p ∷ ns))) ≡ true → has_row rows v ≡ true
        at up true e m = w.marks v (subst (λ (z : Node). is_marked found fixed z ≡ true) h.0 e) k
        at up false e m = w.closed p v (up m) h.1

    all_seen : (v : Node) → row_at rows v ≡ nearest_of t found fixed v
    all_seen v = at (row_at rows v) refl
      where
        seen : (near : Near) → nearest_of t found fixed v ≡ Some near → has_row rows v ≡ true
        seen near h =
            let k = seen_known t found fixed v near h in
            let on : nearest_on found fixed (line t v) ≡ Some near = sym (ap (λ b. cond b (nearest_on found fixed (line t v)) None) k) ∙ h in
            complete v (line t v) (forest.lines v) k (mapped (first_marked found fixed (line t v)) on)
          where
            mapped : (o : Option Node) → option_map (own_mark found) o ≡ Some near → is_some o ≡ true
            mapped None h = absurd (none-some near h)
            mapped (Some m) h = refl

        at : (o : Option Near) → row_at rows v ≡ o → row_at rows v ≡ nearest_of t found fixed v
        at (Some near) e = e ∙ sym (w.right v near e)
        at None e = e ∙ none (nearest_of t found fixed v) refl
          where
            none : (o : Option Near) → nearest_of t found fixed v ≡ o → None ≡ nearest_of t found fixed v
            none None h = sym h
            none (Some near) h = absurd (false≢true (sym (ap is_some e) ∙ seen near h))

  whole : (rows : List NearRow) (place : ℕ) → Walk t found fixed rows place → length rows ≤ place → Walked t found fixed rows rows
  whole rows place w l = at w.rest w.is
    where
      at : (rest : List NearRow) → rows ≡ w.front ++ rest → Walked t found fixed rows rows
      at [] is = subst (λ xs. Walked t found fixed xs rows) (sym (is ∙ append-nil w.front)) w.walked
      at (r ∷ rest) is = absurd (omega (arith, ap length is, length-append w.front (r ∷ rest), w.far, l))

  pub walk_ends : (rows : List NearRow) (place : ℕ) → Walk t found fixed rows place → length rows ≤ place
      → (v : Node) → row_at rows v ≡ nearest_of t found fixed v
  walk_ends rows place w l = all_seen rows (whole rows place w l)

-- ---- what one step does

sorted_nil : IsStrictlySortedBy node_cmp []
unfolding IsStrictlySortedBy
sorted_nil = tt

set_has : (keys : List Node) (c : Node) → has_node keys c ≡ list_any (is_at (node_cmp c)) keys
set_has [] c = refl
set_has (k ∷ keys) c = λ i. sym (ties_same c k) i || set_has keys c i

module _ (t : Ancestry) (marked : Node → Bool) (rows : List NearRow) (place : ℕ) (row : NearRow) (within : place < length rows)
    (here : row ≡ get_or rows place row) where
  at_place : slice_get rows place ≡ Some row
  at_place = slice_get_read rows (length rows) place row refl within here

  pub step_none : ((c : Node) → false ≡ has_parent t c (Some row.node)) → Step t marked rows place rows
  step_none are = record {
    row = row;
    children = [];
    at = at_place;
    sorted = sorted_nil;
    are = are;
    made = sym (append-nil rows);
  }

  pub step_some : {A E : Type 0} (r : Result A E) (rows' : List NearRow) (near : Near) (children : BTreeSet Node) → near ≡ row.near → IsStrictlySortedBy node_cmp children.keys
      → ((c : Node) → contains node_cmp children c ≡ has_parent t c (Some row.node))
      → OnOk r (rows' ≡ rows ++ rows_below marked near children.keys) → OnOk r (Step t marked rows place rows')
  step_some {A} {E} r rows' near children is sorted are made = on_ok r made
    where
      on_ok : (r : Result A E) → OnOk r (rows' ≡ rows ++ rows_below marked near children.keys) → OnOk r (Step t marked rows place rows')
      on_ok (Err x) made = tt
      on_ok (Ok x) made = record {
        row = row;
        children = children.keys;
        at = at_place;
        sorted = sorted;
        are = λ c. set_has children.keys c ∙ are c;
        made = made ∙ ap (λ z. rows ++ rows_below marked z children.keys) is;
      }
