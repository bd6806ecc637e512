-- Which nodes are parents, as links change, and the set that a tree keeps of them.
use Rattle.std.proofs.Common.{◌≡◌, ℕ, ◌+◌, ◌<◌, Bool, true, false, not, ◌&&◌, ◌||◌, cond, List, [], ◌∷◌, length, drop, get_or}
use Rattle.std.proofs.Common.{map, min, Option, Some, None, is_some, Ordering, Less, Equal, Greater, refl, sym, ap, ◌∙◌, subst}
use Rattle.std.proofs.Common.{⊎_elim, arith, ◌≤◌, drop_of_length-le}
use Rattle.std.proofs.lemmas.Bool.{cases_Bool, and_right}
use Rattle.std.proofs.lemmas.List.{at_drop_more, get_or-map, length-map}
use Rattle.std.specs.BTreeMap.{insert_entry}
use Rattle.std.specs.HashSet.{HashSet, contains}
use Rattle.std.specs.Option.{option_flatten, option_map_or}
use Rattle.std.specs.Ordering.{is_eq}
use Rattle.version_nodes.specs.Nodes.{Node, same_node, node_cmp}
use Rattle.version_nodes.specs.Trees.{Ancestry, has_node, known_at, knows, parent_of, line, is_ancestor, is_parent}
use Rattle.version_nodes.specs.Branches.{learn, with_parent, base_on}
use Rattle.ancestry.specs.Kept.{AreParents, Adds}
use Rattle.version_nodes.proofs.NodeLemmas.{same_true, same_itself, same_back, put_step}
use Rattle.ancestry.proofs.LineLemmas.{unknown_has_none}

-- ---- the parents of the links

or_swap : (a b c : Bool) → (a || (b || c)) ≡ (b || (a || c))
or_swap true true c = refl
or_swap true false c = refl
or_swap false b c = refl

-- a node that has no parent gets one, or stays without
parents_put : (t : Ancestry) (n : Node) (v : Option Node) (q : Node) → parent_of t n ≡ None
    → is_parent (insert_entry node_cmp t n v) q ≡ (option_map_or (same_node q) v false || is_parent t q)
parents_put [] n v q root = refl
parents_put (e ∷ t) n v q root = by_order (node_cmp n e.0) refl (parents_put t n v q)
  where
    at : (r : Ordering) → node_cmp n e.0 ≡ r → option_flatten (cond (is_eq r) (Some e.1) (known_at t n)) ≡ None
    at r o = sym (ap (λ x. option_flatten (cond (is_eq x) (Some e.1) (known_at t n))) o) ∙ root

    by_order : (r : Ordering) → node_cmp n e.0 ≡ r
        → (parent_of t n ≡ None
        → is_parent (insert_entry node_cmp t n v) q ≡ (option_map_or (same_node q) v false || is_parent t q))
        → is_parent (insert_entry node_cmp (e ∷ t) n v) q ≡ (option_map_or (same_node q) v false || is_parent (e ∷ t) q)
    by_order Less o again = ap (λ u. is_parent u q) (put_step n v e t Less o)
    by_order Equal o again =
        ap (λ u. is_parent u q) (put_step n v e t Equal o)
        ∙ ap (λ p. option_map_or (same_node q) v false || (option_map_or (same_node q) p false || is_parent t q))
        (sym (at Equal o))
    by_order Greater o again =
        ap (λ u. is_parent u q) (put_step n v e t Greater o)
        ∙ ap (λ b. option_map_or (same_node q) e.1 false || b) (again (at Greater o))
        ∙ or_swap (option_map_or (same_node q) e.1 false) (option_map_or (same_node q) v false) (is_parent t q)

-- ---- what a branch adds to them

adds_same : (f g : Node → Bool) (nodes : List Node) → ((q : Node) → g q ≡ f q) → Adds f nodes g
adds_same f g nodes e q h = e q

pub adds_also : (f g h : Node → Bool) (nodes : List Node) → Adds f nodes g → Adds g nodes h → Adds f nodes h
adds_also f g h nodes a b q off = let e = a q off in b q (ap (λ x. has_node nodes q && not x) e ∙ off) ∙ e

adds_one : (f g : Node → Bool) (nodes : List Node) (p : Node) → has_node nodes p ≡ true
    → ((q : Node) → g q ≡ (same_node q p || f q)) → Adds f nodes g
adds_one f g nodes p here e q off =
    ⊎_elim
    (λ yes. e q ∙ ap (λ b. b || f q) yes
    ∙ sym (was_true (f q)
    (sym (ap (λ m. has_node nodes m && not (f q)) (same_true q p yes) ∙ ap (λ b. b && not (f q)) here) ∙ off)))
    (λ other. e q ∙ ap (λ b. b || f q) other)
    (cases_Bool (same_node q p))
  where
    was_true : (b : Bool) → not b ≡ false → b ≡ true
    was_true true h = refl
    was_true false h = absurd (cc)

-- no node becomes a parent where one becomes known
pub parents_learn : (t : Ancestry) (n q : Node) → is_parent (learn t n) q ≡ is_parent t q
parents_learn t n q =
    ⊎_elim
    (λ yes. ap (λ b. is_parent (cond b t (insert_entry node_cmp t n None)) q) yes)
    (λ off. ap (λ b. is_parent (cond b t (insert_entry node_cmp t n None)) q) off
    ∙ parents_put t n None q (unknown_has_none t n off))
    (cases_Bool (knows t n))

pub adds_learn : (t : Ancestry) (nodes : List Node) (n : Node) → Adds (is_parent t) nodes (is_parent (learn t n))
adds_learn t nodes n = adds_same _ _ nodes (parents_learn t n)

pub adds_base : (t u : Ancestry) (nodes : List Node) (n p : Node) → has_node nodes p ≡ true → base_on t n p ≡ Some u
    → Adds (is_parent t) nodes (is_parent u)
adds_base t u nodes n p here h = by_tests (is_ancestor t p n) (parent_of t n) refl (has_node (line t p) n) h
  where
    at_equal : (w : Ancestry) → w ≡ u → Adds (is_parent t) nodes (is_parent w) → Adds (is_parent t) nodes (is_parent u)
    at_equal w e a = subst (λ x. Adds (is_parent t) nodes (is_parent x)) e a

    by_tests : (a : Bool) (o : Option Node) → parent_of t n ≡ o → (c : Bool)
        → cond a (Some t) (cond (is_some o || c) None (Some (with_parent t n p))) ≡ Some u
        → Adds (is_parent t) nodes (is_parent u)
    by_tests true o e c g = at_equal t (cc) (adds_same _ _ nodes (λ q. refl))
    by_tests false (Some m) e c g = absurd (cc)
    by_tests false None e true g = absurd (cc)
    by_tests false None e false g =
        at_equal (with_parent t n p) (cc) (adds_one _ _ nodes p here (λ q. parents_put t n (Some p) q e))

-- ---- the set of the parents

-- a node that becomes known changes nothing
pub kept_learnt : {S : Type 0} (t : Ancestry) (n : Node) (s : HashSet Node S) → knows t n ≡ false → AreParents t s
    → AreParents (insert_entry node_cmp t n None) s
kept_learnt t n s off are q = are q ∙ sym (parents_put t n None q (unknown_has_none t n off))

-- the parent of a node that had none is put in
pub kept_based : {S : Type 0} (t : Ancestry) (n p : Node) (s s' : HashSet Node S) → parent_of t n ≡ None → AreParents t s
    → ((q : Node) → contains same_node s' q ≡ cond (same_node p q) true (contains same_node s q))
    → AreParents (with_parent t n p) s'
kept_based t n p s s' root are made q =
    ⊎_elim
    (λ yes. made q ∙ ap (λ b. cond b true (contains same_node s q)) yes
    ∙ sym (parents_put t n (Some p) q root
    ∙ ap (λ b. b || is_parent t q) (ap (λ m. same_node q m) (same_true p q yes) ∙ same_itself q)))
    (λ other. made q ∙ ap (λ b. cond b true (contains same_node s q)) other ∙ are q
    ∙ sym (parents_put t n (Some p) q root ∙ ap (λ b. b || is_parent t q) (same_back p q other)))
    (cases_Bool (same_node p q))

-- what a branch adds to the parents, it adds to the set
pub adds_kept : {S : Type 0} (was : Node → Bool) (nodes : List Node) (t : Ancestry) (s : HashSet Node S) → Adds was nodes (is_parent t)
    → AreParents t s → Adds was nodes (contains same_node s)
adds_kept was nodes t s a are q off = are q ∙ a q off

-- ---- putting back

-- a node that was a parent stays
stays : (was : Node → Bool) (n : Node) (nodes : List Node) (f : Node → Bool) → was n ≡ true → Adds was (n ∷ nodes) f
    → Adds was nodes f
stays was n nodes f had a q off =
    ⊎_elim
    (λ is. a q (and_right (has_node (n ∷ nodes) q) (not (was q)) (ap (λ m. not (was m)) (same_true q n is) ∙ ap not had)))
    (λ other. a q (ap (λ b. (b || has_node nodes q) && not (was q)) other ∙ off))
    (cases_Bool (same_node q n))

-- a node that was none is taken out
goes : (was : Node → Bool) (n : Node) (nodes : List Node) (f g : Node → Bool) → was n ≡ false
    → ((q : Node) → g q ≡ cond (same_node n q) false (f q)) → Adds was (n ∷ nodes) f → Adds was nodes g
goes was n nodes f g lacked made a q off =
    ⊎_elim
    (λ is. made q ∙ ap (λ b. cond b false (f q)) (ap (same_node n) (same_true q n is) ∙ same_itself n)
    ∙ sym (ap was (same_true q n is) ∙ lacked))
    (λ other. made q ∙ ap (λ b. cond b false (f q)) (same_back q n other)
    ∙ a q (ap (λ b. (b || has_node nodes q) && not (was q)) other ∙ off))
    (cases_Bool (same_node q n))

-- one more node of a list is seen to
module _ (was : Node → Bool) (nodes : List Node) (were : List Bool) (i : ℕ) (n : Node) (b : Bool) (all : were ≡ map was nodes)
    (l : i < length nodes) (here : n ≡ get_or nodes i n) (is : b ≡ get_or were i b) where
  was_so : was n ≡ b
  was_so =
      ap was here ∙ sym (ap (λ bs. get_or bs i b) all ∙ get_or-map was nodes i n b l) ∙ sym is

  split : (f : Node → Bool) → Adds was (drop i nodes) f → Adds was (n ∷ drop (i + 1) nodes) f
  split f a =
      subst (λ ns. Adds was ns f) (at_drop_more (λ ns. ns) nodes i n l ∙ ap (λ m. m ∷ drop (i + 1) nodes) (sym here)) a

  pub forget_none : (f : Node → Bool) → b ≡ true → Adds was (drop i nodes) f → Adds was (drop (i + 1) nodes) f
  forget_none f had a = stays was n (drop (i + 1) nodes) f (was_so ∙ had) (split f a)

  pub forget_one : (f g : Node → Bool) → b ≡ false → ((q : Node) → g q ≡ cond (same_node n q) false (f q))
      → Adds was (drop i nodes) f → Adds was (drop (i + 1) nodes) g
  forget_one f g lacked made a = goes was n (drop (i + 1) nodes) f g (was_so ∙ lacked) made (split f a)

-- all nodes of a list are seen to
pub forgotten : (was : Node → Bool) (nodes : List Node) (were : List Bool) (i : ℕ) (f : Node → Bool) → were ≡ map was nodes
    → i ≡ min (length nodes) (length were) → Adds was (drop i nodes) f → (q : Node) → f q ≡ was q
forgotten was nodes were i f all e a q =
    let same : length were ≡ length nodes = ap length all ∙ length-map nodes was in
    let far : length nodes ≤ i = omega arith in
    subst (λ ns. Adds was ns f) (drop_of_length-le nodes far) a q refl
