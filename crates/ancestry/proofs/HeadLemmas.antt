-- The heads of a package stand among its own nodes, which stand together.
use Rattle.std.proofs.Common.{◌≡◌, ℕ, Bool, true, false, not, ◌&&◌, ◌||◌, cond, List, [], ◌∷◌, Option, Some, None, is_some, refl}
use Rattle.std.proofs.Common.{Ordering, Less, Equal, Greater, sym, ap, ◌∙◌, subst, ⊎_elim}
use Rattle.std.specs.Prelude.{filter, IfSome}
use Rattle.std.specs.List.{AllByRecursion}
use Rattle.std.specs.Option.{option_map_or}
use Rattle.std.proofs.Common.{◌++◌, append_assoc, append-nil}
use Rattle.std.proofs.lemmas.Bool.{cases_Bool, false≢true, and_parts, or_right}
use Rattle.debver.specs.Names.{IsName}
use Rattle.debver.proofs.CutLaws.{version_is}
use Rattle.debver.specs.Versions.{total_cmp}
use Rattle.std.proofs.lemmas.List.Kept.{IsStrictlySortedBy-filter}
use Rattle.std.proofs.lemmas.Map.Keys.{sorted_head, sorted_tail}
use Rattle.std.proofs.lemmas.Map.Lookups.{exact_bytes}
use Rattle.std.specs.Cmp.Lexicographic.{slice_cmp, nat_list_cmp_total, bytes_decides}
use Rattle.std.specs.List.Sorted.{IsStrictlySortedBy}
use Rattle.std.specs.Map.{keys_of}
use Rattle.std.specs.Ordering.{nat_cmp, ordering_then, ordering_reverse, is_eq, is_le}
use Rattle.std.specs.Str.{bytes_eq}
use Rattle.version_nodes.specs.Nodes.{Node, IsNode, node, node_of, node_cmp, same_node}
use Rattle.version_nodes.specs.Trees.{Ancestry, has_node, known_at, knows, is_parent, heads, IsForest}
use Rattle.version_nodes.specs.Lowest.{lowest_version}
use Rattle.version_nodes.proofs.NodeLemmas.{has_head, has_tail, has_cases, same_itself, same_true, listed_valid}
use Rattle.ancestry.specs.Kept.{listed}
use Rattle.ancestry.proofs.LinkLemmas.{AreAbove}
use Rattle.ancestry.proofs.LowestLemmas.{lowest_below}
use Rattle.version_nodes.proofs.ReadLemmas.{nodes_exactly}

abbrev pub is_head : Ancestry → List ℕ → Node → Bool
is_head t source n = bytes_eq n.source source && not (is_parent t n)

-- ---- lists of links

-- nothing is kept where the test fails of each node
pub none_kept : (p : Node → Bool) (es : Ancestry) → ((q : Node) → has_node (keys_of es) q ≡ true → p q ≡ false)
    → filter p (keys_of es) ≡ []
none_kept p [] h = refl
none_kept p (e ∷ es) h =
    ap (λ b. cond b (e.0 ∷ filter p (keys_of es)) (filter p (keys_of es))) (h e.0 (has_head e.0 (keys_of es)))
    ∙ none_kept p es (λ q g. h q (has_tail q e.0 (keys_of es) g))

-- what the first test keeps is among what the second keeps
kept_within : (p r : Node → Bool) (es : Ancestry) → ((q : Node) → has_node (keys_of es) q ≡ true → p q ≡ true → r q ≡ true)
    → filter p (keys_of (filter (λ e. r e.0) es)) ≡ filter p (keys_of es)
kept_within p r [] h = refl
kept_within p r (e ∷ es) h = by_tests (kept_within p r es (λ q g. h q (has_tail q e.0 (keys_of es) g)))
  where
    by_tests : filter p (keys_of (filter (λ e. r e.0) es)) ≡ filter p (keys_of es)
        → filter p (keys_of (filter (λ e. r e.0) (e ∷ es))) ≡ filter p (keys_of (e ∷ es))
    by_tests again =
        ⊎_elim
        (λ yes. ap (λ b. filter p (keys_of (cond b (e ∷ filter (λ e. r e.0) es) (filter (λ e. r e.0) es)))) yes
        ∙ ap (λ ns. cond (p e.0) (e.0 ∷ ns) ns) again)
        (λ off. ap (λ b. filter p (keys_of (cond b (e ∷ filter (λ e. r e.0) es) (filter (λ e. r e.0) es)))) off
        ∙ again
        ∙ sym (ap (λ b. cond b (e.0 ∷ filter p (keys_of es)) (filter p (keys_of es)))
        (⊎_elim (λ head. absurd (false≢true (sym off ∙ h e.0 (has_head e.0 (keys_of es)) head))) (λ other. other)
        (cases_Bool (p e.0)))))
        (cases_Bool (r e.0))

-- each node of what is kept passed the test, and stood in the list
pub kept_passed : (r : Node → Bool) (es : Ancestry) (q : Node) → has_node (keys_of (filter (λ e. r e.0) es)) q ≡ true → r q ≡ true
kept_passed r [] q h = absurd (false≢true h)
kept_passed r (e ∷ es) q h =
    ⊎_elim
    (λ yes. has_cases q e.0 (keys_of (filter (λ e. r e.0) es))
    (sym (ap (λ b. has_node (keys_of (cond b (e ∷ filter (λ e. r e.0) es) (filter (λ e. r e.0) es))) q) yes) ∙ h)
    (λ is. ap r is ∙ yes) (λ more. kept_passed r es q more))
    (λ off. kept_passed r es q
    (sym (ap (λ b. has_node (keys_of (cond b (e ∷ filter (λ e. r e.0) es) (filter (λ e. r e.0) es))) q) off) ∙ h))
    (cases_Bool (r e.0))

-- the keys of what is kept are what is kept of the keys
keys_kept : (r : Node → Bool) (es : Ancestry) → keys_of (filter (λ e. r e.0) es) ≡ filter r (keys_of es)
keys_kept r [] = refl
keys_kept r (e ∷ es) =
    ⊎_elim
    (λ yes. ap (λ b. keys_of (cond b (e ∷ filter (λ e. r e.0) es) (filter (λ e. r e.0) es))) yes
    ∙ ap (λ ns. e.0 ∷ ns) (keys_kept r es) ∙ sym (ap (λ b. cond b (e.0 ∷ filter r (keys_of es)) (filter r (keys_of es))) yes))
    (λ off. ap (λ b. keys_of (cond b (e ∷ filter (λ e. r e.0) es) (filter (λ e. r e.0) es))) off
    ∙ keys_kept r es ∙ sym (ap (λ b. cond b (e.0 ∷ filter r (keys_of es)) (filter r (keys_of es))) off))
    (cases_Bool (r e.0))

-- ---- where the nodes of a package begin and end

-- a text that is no package name has no heads
pub no_heads : (t : Ancestry) (source : List ℕ) → IsForest t → ((n : Node) → IsNode n → bytes_eq n.source source ≡ false)
    → heads t source ≡ []
no_heads t source forest h =
    none_kept (is_head t source) t (λ q g. ap (λ b. b && not (is_parent t q)) (h q (listed_valid t q forest g)))

module _ (t : Ancestry) (source : List ℕ) (forest : IsForest t) where
  abbrev lowest : Node
  lowest = node source lowest_version

  abbrev in_range : Node → Bool
  in_range n = is_le (node_cmp lowest n) && not false

  abbrev from_lowest : Ancestry
  from_lowest = filter (λ e. in_range e.0) t

  is_in_range : (n : Node) → is_le (node_cmp lowest n) ≡ true → in_range n ≡ true
  is_in_range n h = ap (λ b. b && not false) h

  was_in_range : (n : Node) → in_range n ≡ true → is_le (node_cmp lowest n) ≡ true
  was_in_range n h = (and_parts (is_le (node_cmp lowest n)) (not false) h).0

  head_source : (n : Node) → is_head t source n ≡ true → n.source ≡ source
  head_source n h = (bytes_decides n.source source).0 (and_parts (bytes_eq n.source source) (not (is_parent t n)) h).0

  -- no head stands before the lowest node
  pub heads_from : filter (is_head t source) (keys_of from_lowest) ≡ heads t source
  heads_from =
      kept_within (is_head t source) in_range t
      (λ q g h. is_in_range q (lowest_below source q (head_source q h) (listed_valid t q forest g).version))

  pub from_ascends : IsStrictlySortedBy node_cmp (keys_of from_lowest)
  from_ascends =
      subst (IsStrictlySortedBy node_cmp) (sym (keys_kept in_range t))
      (IsStrictlySortedBy-filter node_cmp in_range (keys_of t) forest.ascending)

  pub from_above : (q : Node) → has_node (keys_of from_lowest) q ≡ true → is_le (node_cmp lowest q) ≡ true
  from_above q h = was_in_range q (kept_passed in_range t q h)

above_has : (n q : Node) (ns : List Node) → AreAbove n ns → has_node ns q ≡ true → node_cmp n q ≡ Less
above_has n q [] above h = absurd (false≢true h)
above_has n q (m ∷ ns) above h =
    has_cases q m ns h (λ is. ap (node_cmp n) is ∙ above.0) (λ more. above_has n q ns above.1 more)

-- the sources of a node past the package and of the package
past_source : (source : List ℕ) (n : Node) → is_le (node_cmp (node source lowest_version) n) ≡ true
    → bytes_eq n.source source ≡ false → slice_cmp nat_cmp n.source source ≡ Greater
past_source source n above off = by_order (slice_cmp nat_cmp source n.source) refl
  where
    by_order : (o : Ordering) → slice_cmp nat_cmp source n.source ≡ o → slice_cmp nat_cmp n.source source ≡ Greater
    by_order Less e = nat_list_cmp_total.antisymm n.source source ∙ ap ordering_reverse e
    by_order Equal e =
        absurd (false≢true (sym off ∙ (bytes_decides n.source source).1 (sym (exact_bytes source n.source e))))
    by_order Greater e =
        absurd (false≢true (sym (ap (λ o. is_le (ordering_then o (total_cmp lowest_version n.version))) e) ∙ above))

-- and so no node of the package follows one that is past it
pub none_after : (t : Ancestry) (source : List ℕ) (e : Node × Option Node) (es : Ancestry)
    → IsStrictlySortedBy node_cmp (keys_of (e ∷ es))
    → ((q : Node) → has_node (keys_of (e ∷ es)) q ≡ true → is_le (node_cmp (node source lowest_version) q) ≡ true)
    → bytes_eq e.0.source source ≡ false → filter (is_head t source) (keys_of (e ∷ es)) ≡ []
none_after t source e es ascending above off =
    none_kept (is_head t source) (e ∷ es) (λ q g. ap (λ b. b && not (is_parent t q)) (other q g))
  where
    past : slice_cmp nat_cmp e.0.source source ≡ Greater
    past = past_source source e.0 (above e.0 (has_head e.0 (keys_of es))) off

    after : (q : Node) → node_cmp e.0 q ≡ Less → bytes_eq q.source source ≡ false
    after q less =
        ⊎_elim
        (λ yes. absurd (cc (
          less,
          ap (λ o. ordering_then o (total_cmp e.0.version q.version))
              (ap (slice_cmp nat_cmp e.0.source) ((bytes_decides q.source source).0 yes) ∙ past),
        )))
        (λ no_. no_)
        (cases_Bool (bytes_eq q.source source))

    other : (q : Node) → has_node (keys_of (e ∷ es)) q ≡ true → bytes_eq q.source source ≡ false
    other q g =
        has_cases q e.0 (keys_of es) g
        (λ is. ap (λ m. bytes_eq m.source source) is ∙ off)
        (λ more. after q (above_has e.0 q (keys_of es) (sorted_head node_cmp e.0 (keys_of es) ascending) more))

-- a text of which there is no node is the source of none
pub no_source : (source : List ℕ) → node_of source lowest_version ≡ None → (n : Node) → IsNode n
    → bytes_eq n.source source ≡ false
no_source source h n valid =
    ⊎_elim
    (λ yes. let name = subst IsName ((bytes_decides n.source source).0 yes) valid.source in
    let low = node source lowest_version in
    absurd (cc (h, (nodes_exactly source lowest_version low).1 (refl, name, version_is lowest_version refl))))
    (λ other. other)
    (cases_Bool (bytes_eq n.source source))

-- ---- a walk through the nodes of a package

-- what is some node's parent among the links that are kept is one among all
either : {a c : Bool} (b : Bool) → (a ≡ true → c ≡ true) → (b || a) ≡ true → (b || c) ≡ true
either true again k = refl
either false again k = again k

kept_parent : (r : Node → Bool) (es : Ancestry) (p : Node) → is_parent (filter (λ e. r e.0) es) p ≡ true → is_parent es p ≡ true
kept_parent r [] p h = h
kept_parent r (e ∷ es) p h = by_tests (kept_parent r es p) (r e.0) h
  where
    by_tests : (is_parent (filter (λ e. r e.0) es) p ≡ true → is_parent es p ≡ true) → (b : Bool)
        → is_parent (cond b (e ∷ filter (λ e. r e.0) es) (filter (λ e. r e.0) es)) p ≡ true → is_parent (e ∷ es) p ≡ true
    by_tests again true k = either (option_map_or (same_node p) e.1 false) again k
    by_tests again false k = or_right (option_map_or (same_node p) e.1 false) (is_parent es p) (again k)

filter-append : (p : Node → Bool) (xs ys : List Node) → filter p (xs ++ ys) ≡ filter p xs ++ filter p ys
filter-append p [] ys = refl
filter-append p (x ∷ xs) ys =
    elim (p x) as (λ b. cond b (x ∷ filter p (xs ++ ys)) (filter p (xs ++ ys)) ≡ cond b (x ∷ filter p xs) (filter p xs) ++ filter p ys)
    [ true ↦ ap (λ ns. x ∷ ns) (filter-append p xs ys) | false ↦ filter-append p xs ys ]

-- The heads so far, the last node if it is one, and those among the links that are left, are all.
-- No link is before the package.
pub record Left (t : Ancestry) (source : List ℕ) (found : List Node) (last : Option Node) (rest : Ancestry) : Type 0 where
  pub all : found ++ filter (is_head t source) (listed last ++ keys_of rest) ≡ heads t source
  pub own : AllByRecursion (λ n. bytes_eq n.source source ≡ true) (listed last)
  pub within : (p : Node) → is_parent rest p ≡ true → is_parent t p ≡ true
  pub ascending : IsStrictlySortedBy node_cmp (keys_of rest)
  pub above : (n : Node) → has_node (keys_of rest) n ≡ true → is_le (node_cmp (node source lowest_version) n) ≡ true

pub at_lowest : (t : Ancestry) (source : List ℕ) (low : Node) (found : List Node) (rest : Ancestry) → IsForest t
    → node_of source lowest_version ≡ Some low → found ≡ []
    → rest ≡ filter (λ e. is_le (node_cmp low e.0) && not false) t → Left t source found None rest
at_lowest t source low found rest forest h none e =
    let is : low ≡ node source lowest_version = ((nodes_exactly source lowest_version low).0 h).0 in
    let whole : rest ≡ from_lowest t source forest = e ∙ ap (λ m. filter (λ e. is_le (node_cmp m e.0) && not false) t) is in
    subst (Left t source found None) (sym whole) (record {
      all = ap (λ ns. ns ++ filter (is_head t source) (keys_of (from_lowest t source forest))) none ∙ heads_from t source forest;
      own = tt;
      within = kept_parent (in_range t source forest) t;
      ascending = from_ascends t source forest;
      above = from_above t source forest;
    })

-- of the last node, what is kept is what is no parent
last_kept : (t : Ancestry) (source : List ℕ) (last : Option Node) → AllByRecursion (λ n. bytes_eq n.source source ≡ true) (listed last)
    → filter (is_head t source) (listed last) ≡ filter (λ n. not (is_parent t n)) (listed last)
last_kept t source None own = refl
last_kept t source (Some n) own = ap (λ b. cond (b && not (is_parent t n)) (n ∷ []) []) own.0

module _ (t : Ancestry) (source : List ℕ) (found : List Node) (last : Option Node) (rest : Ancestry)
    (left : Left t source found last rest) where
  -- the heads so far and the last node, and then those that are left
  both : (found' : List Node) → found' ≡ found ++ filter (λ n. not (is_parent t n)) (listed last)
      → found' ++ filter (is_head t source) (keys_of rest) ≡ heads t source
  both found' e =
      ap (λ ns. ns ++ filter (is_head t source) (keys_of rest)) (e ∙ ap (λ ns. found ++ ns) (sym (last_kept t source last left.own)))
      ∙ append_assoc found (filter (is_head t source) (listed last)) (filter (is_head t source) (keys_of rest))
      ∙ ap (λ ns. found ++ ns) (sym (filter-append (is_head t source) (listed last) (keys_of rest)))
      ∙ left.all

  module _ (n : Node) (v : Option Node) (more : Ancestry) (e : rest ≡ (n, v) ∷ more) where
    abbrev here : Left t source found last ((n, v) ∷ more)
    here = subst (Left t source found last) e left

    -- a node that the next one is based on is a parent
    pub next_parent : IfSome v (λ p. is_parent t p ≡ true)
    next_parent = cases v here.within
      where
        cases : (v : Option Node) → ((p : Node) → is_parent ((n, v) ∷ more) p ≡ true → is_parent t p ≡ true) → IfSome v (λ p. is_parent t p ≡ true)
        cases None within = tt
        cases (Some p) within = within p (ap (λ b. b || is_parent more p) (same_itself p))

    -- the next node is the last one then
    pub one_more : (found' : List Node) → bytes_eq n.source source ≡ true
        → found' ≡ found ++ filter (λ n. not (is_parent t n)) (listed last) → Left t source found' (Some n) more
    one_more found' of_source is = record {
      all = ap (λ (es : Ancestry). found' ++ filter (is_head t source) (keys_of es)) (sym e) ∙ both found' is;
      own = (of_source, tt);
      within = λ p h. here.within p (or_right (option_map_or (same_node p) v false) (is_parent more p) h);
      ascending = sorted_tail node_cmp n (keys_of more) here.ascending;
      above = λ q h. here.above q (has_tail q n (keys_of more) h);
    }

    -- a node of another source ends the walk
    pub found_before : (found' : List Node) → bytes_eq n.source source ≡ false
        → found' ≡ found ++ filter (λ n. not (is_parent t n)) (listed last) → found' ≡ heads t source
    found_before found' off is =
        let none = none_after t source (n, v) more here.ascending here.above off in
        sym (append-nil found') ∙ ap (λ ns. found' ++ ns) (sym none)
        ∙ ap (λ (es : Ancestry). found' ++ filter (is_head t source) (keys_of es)) (sym e) ∙ both found' is

  -- and so does the end of the links
  pub found_all : (found' : List Node) → rest ≡ [] → found' ≡ found ++ filter (λ n. not (is_parent t n)) (listed last)
      → found' ≡ heads t source
  found_all found' e is =
      sym (append-nil found') ∙ ap (λ (es : Ancestry). found' ++ filter (is_head t source) (keys_of es)) (sym e) ∙ both found' is

-- a parent is no head
pub parent_is_none : (t : Ancestry) (heads : List Node) (given : Option Node) (n : Node) → is_parent t n ≡ true → given ≡ Some n
    → heads ≡ heads ++ filter (λ n. not (is_parent t n)) (listed given)
parent_is_none t heads given n h is =
    sym (append-nil heads) ∙ ap (λ ns. heads ++ ns) (sym (ap (λ b. cond (not b) (n ∷ []) []) h)
    ∙ ap (λ o. filter (λ n. not (is_parent t n)) (listed o)) (sym is))

-- a node that is the given parent is one
pub given_is_none : (t : Ancestry) (heads : List Node) (parent given : Option Node) (n : Node) → IfSome parent (λ p. is_parent t p ≡ true)
    → option_map_or (same_node n) parent false ≡ true → given ≡ Some n → heads ≡ heads ++ filter (λ n. not (is_parent t n)) (listed given)
given_is_none t heads None given n h same is = absurd (false≢true same)
given_is_none t heads (Some p) given n h same is = parent_is_none t heads given n (ap (is_parent t) (same_true n p same) ∙ h) is

pub heads_ascend : (t : Ancestry) (source : List ℕ) → IsForest t → IsStrictlySortedBy node_cmp (heads t source)
heads_ascend t source forest = IsStrictlySortedBy-filter node_cmp (is_head t source) (keys_of t) forest.ascending
