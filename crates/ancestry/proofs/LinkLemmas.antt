-- Links: nodes stay in order when one is put in, and lists of links in which the same is known of
-- each node are equal.
use Rattle.std.proofs.Common.{◌≡◌, false, List, [], ◌∷◌, Option, None, unwrap_or, Ordering, Less, Equal, Greater, refl, sym, ap}
use Rattle.std.proofs.Common.{◌∙◌, subst, ⊎_elim}
use Rattle.std.proofs.lemmas.Bool.{cases_Bool}
use Rattle.std.proofs.lemmas.Map.Keys.{sorted_head, sorted_tail}
use Rattle.std.specs.BTreeMap.{insert_entry}
use Rattle.std.specs.List.{AllByRecursion}
use Rattle.std.specs.List.Sorted.{IsStrictlySortedBy}
use Rattle.std.specs.Map.{keys_of}
use Rattle.std.specs.Ordering.{is_eq, ordering_reverse}
use Rattle.version_nodes.specs.Nodes.{Node, same_node, node_cmp}
use Rattle.version_nodes.specs.NodeLaws.{node_cmp_total}
use Rattle.version_nodes.specs.Trees.{Ancestry, known_at}
use Rattle.version_nodes.proofs.NodeLemmas.{same_true, ties_same, ties_node, at_first, past_first, put_step}

-- ---- nodes in order

abbrev pub AreAbove : Node → List Node → Type 0
AreAbove n ns = AllByRecursion (λ m. node_cmp n m ≡ Less) ns

abbrev Ascends : Ancestry → Type 0
Ascends t = IsStrictlySortedBy node_cmp (keys_of t)

pub above_more : (n m : Node) → node_cmp n m ≡ Less → (ns : List Node) → AreAbove m ns → AreAbove n ns
above_more n m l [] h = tt
above_more n m l (k ∷ ns) h = (node_cmp_total.trans n m k l h.0, above_more n m l ns h.1)

turned : (n m : Node) → node_cmp n m ≡ Greater → node_cmp m n ≡ Less
turned n m h = node_cmp_total.antisymm m n ∙ ap ordering_reverse h

above_put : (k n : Node) (v : Option Node) (t : Ancestry) → node_cmp k n ≡ Less → AreAbove k (keys_of t)
    → AreAbove k (keys_of (insert_entry node_cmp t n v))
above_put k n v [] l h = (l, tt)
above_put k n v (e ∷ t) l h = by_order (above_put k n v t l h.1) (node_cmp n e.0) refl
  where
    by_order : AreAbove k (keys_of (insert_entry node_cmp t n v)) → (r : Ordering) → node_cmp n e.0 ≡ r
        → AreAbove k (keys_of (insert_entry node_cmp (e ∷ t) n v))
    by_order g Less o = subst (λ u. AreAbove k (keys_of u)) (sym (put_step n v e t Less o)) (l, h)
    by_order g Equal o = subst (λ u. AreAbove k (keys_of u)) (sym (put_step n v e t Equal o)) h
    by_order g Greater o = subst (λ u. AreAbove k (keys_of u)) (sym (put_step n v e t Greater o)) (h.0, g)

pub ascends_put : (t : Ancestry) (n : Node) (v : Option Node) → IsStrictlySortedBy node_cmp (keys_of t)
    → IsStrictlySortedBy node_cmp (keys_of (insert_entry node_cmp t n v))
unfolding IsStrictlySortedBy
ascends_put [] n v h = (tt, tt)
ascends_put (e ∷ t) n v h = by_order (ascends_put t n v h.1) (node_cmp n e.0) refl
  where
    by_order : Ascends (insert_entry node_cmp t n v) → (r : Ordering) → node_cmp n e.0 ≡ r
        → Ascends (insert_entry node_cmp (e ∷ t) n v)
    by_order g Less o = subst Ascends (sym (put_step n v e t Less o)) ((o, above_more n e.0 o (keys_of t) h.0), h)
    by_order g Equal o = subst Ascends (sym (put_step n v e t Equal o)) h
    by_order g Greater o = subst Ascends (sym (put_step n v e t Greater o)) (above_put e.0 n v t (turned n e.0 o) h.0, g)

-- ---- where the same is known of each node, the links are equal

pub unknown_below : (n : Node) (t : Ancestry) → AreAbove n (keys_of t) → known_at t n ≡ None
unknown_below n [] h = refl
unknown_below n (e ∷ t) h = past_first n e.0 e.1 t (sym (ties_same n e.0) ∙ ap is_eq h.0) ∙ unknown_below n t h.1

abbrev SameKnown : Ancestry → Ancestry → Type 0
SameKnown t u = (q : Node) → known_at t q ≡ known_at u q

abbrev key_of : Node × Option Node → Node
key_of e = e.0

module _ (e f : Node × Option Node) (t u : Ancestry) (a : Ascends (e ∷ t)) (b : Ascends (f ∷ u))
    (same : SameKnown (e ∷ t) (f ∷ u)) where
  by_heads : (r : Ordering) → node_cmp e.0 f.0 ≡ r → e.0 ≡ f.0
  by_heads Less o =
      let none = unknown_below e.0 (f ∷ u) (o, above_more e.0 f.0 o (keys_of u) (sorted_head node_cmp f.0 (keys_of u) b)) in
      absurd (cc (at_first e.0 e.1 t, same e.0, none))
  by_heads Equal o = ties_node e.0 f.0 o
  by_heads Greater o =
      let l = turned e.0 f.0 o in
      let none = unknown_below f.0 (e ∷ t) (l, above_more f.0 e.0 l (keys_of t) (sorted_head node_cmp e.0 (keys_of t) a)) in
      absurd (cc (at_first f.0 f.1 u, same f.0, none))

  heads : e.0 ≡ f.0
  heads = by_heads (node_cmp e.0 f.0) refl

  values : e.1 ≡ f.1
  values = ap (λ o. unwrap_or o e.1) (sym (at_first e.0 e.1 t) ∙ same e.0 ∙ ap (known_at (f ∷ u)) heads ∙ at_first f.0 f.1 u)

  tails : SameKnown t u
  tails q =
      ⊎_elim
      (λ yes. let is = same_true q e.0 yes in
      ap (known_at t) is ∙ unknown_below e.0 t (sorted_head node_cmp e.0 (keys_of t) a)
      ∙ sym (ap (known_at u) (is ∙ heads) ∙ unknown_below f.0 u (sorted_head node_cmp f.0 (keys_of u) b)))
      (λ no. sym (past_first q e.0 e.1 t no) ∙ same q ∙ past_first q f.0 f.1 u (subst (λ m. same_node q m ≡ false) heads no))
      (cases_Bool (same_node q e.0))

pub same_links : (t u : Ancestry) → IsStrictlySortedBy node_cmp (keys_of t) → IsStrictlySortedBy node_cmp (keys_of u)
    → ((q : Node) → known_at t q ≡ known_at u q) → t ≡ u
same_links [] [] a b same = refl
same_links [] (f ∷ u) a b same = absurd (cc (same f.0, at_first f.0 f.1 u))
same_links (e ∷ t) [] a b same = absurd (cc (same e.0, at_first e.0 e.1 t))
same_links (e ∷ t) (f ∷ u) a b same =
    let rest = same_links t u (sorted_tail node_cmp e.0 (keys_of t) a) (sorted_tail node_cmp f.0 (keys_of u) b)
    (tails e f t u a b same) in
    λ i. (heads e f t u a b same i, values e f t u a b same i) ∷ rest i
