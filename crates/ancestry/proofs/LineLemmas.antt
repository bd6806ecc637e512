-- Lines: there is one from each node, its nodes differ, and it is no longer than there are known
-- nodes, but for an unknown node's.
use Rattle.std.proofs.Common.{◌≡◌, ℕ, ◌+◌, ◌≤◌, ◌<◌, zero, suc, true, false, ◌||◌, List, [], ◌∷◌, length, drop, Option, Some}
use Rattle.std.proofs.Common.{None, is_some, refl, sym, ap, ◌∙◌, subst, ⊎_elim, arith}
use Rattle.std.proofs.lemmas.Bool.{cases_Bool, false≢true, or_left, or_parts}
use Rattle.std.proofs.lemmas.Map.Steps.{length-le_from_keys}
use Rattle.std.specs.Cmp.{eq_by_cmp_equiv}
use Rattle.std.specs.Option.{option_flatten, option_map_or}
use Rattle.std.specs.List.{AllByRecursion, IsDistinct, list_any}
use Rattle.std.specs.List.Sorted.{IsStrictlySortedBy}
use Rattle.std.specs.Map.{keys_of}
use Rattle.std.specs.Ordering.{eq_by_cmp}
use Rattle.version_nodes.specs.Nodes.{Node, IsNode, same_node, node_cmp}
use Rattle.version_nodes.specs.NodeLaws.{node_cmp_total, node_ties}
use Rattle.version_nodes.specs.Trees.{Ancestry, has_node, known_at, knows, parent_of, IsLine, line_within, line, is_ancestor, IsForest}
use Rattle.version_nodes.proofs.NodeLemmas.{has_head, has_tail, has_cases}

-- the line from a parent on, where there is one
abbrev pub line_above : (Node → List Node) → Option Node → List Node
line_above line_of parent = option_map_or line_of parent []

-- ---- there is one line from a node

pub one_line_from : (t : Ancestry) (n : Node) (ns ms : List Node) → IsLine t n ns → IsLine t n ms → ns ≡ ms
one_line_from t n [] ms h g = absurd h
one_line_from t n (a ∷ []) [] h g = absurd g
one_line_from t n (a ∷ []) (b ∷ []) h g = ap (λ x. x ∷ []) (h.0 ∙ sym g.0)
one_line_from t n (a ∷ []) (b ∷ q ∷ less) h g = absurd (cc (h.1, g.1))
one_line_from t n (a ∷ p ∷ more) [] h g = absurd g
one_line_from t n (a ∷ p ∷ more) (b ∷ []) h g = absurd (cc (h.1, g.1))
one_line_from t n (a ∷ p ∷ more) (b ∷ q ∷ less) h g =
    let same : q ≡ p = cc (h.1, g.1) in
    let rest = one_line_from t p (p ∷ more) (q ∷ less) h.2 (subst (λ z. IsLine t z (q ∷ less)) same g.2) in
    λ i. (h.0 ∙ sym g.0) i ∷ rest i

pub line_is : (t : Ancestry) (n : Node) (ns : List Node) → IsForest t → IsLine t n ns → ns ≡ line t n
line_is t n ns forest h = one_line_from t n ns (line t n) h (forest.lines n)

-- a line begins with its node
pub line_begins : (t : Ancestry) (n : Node) (ns : List Node) → IsLine t n ns → has_node ns n ≡ true
line_begins t n [] h = absurd h
line_begins t n (a ∷ []) h = subst (λ z. has_node (a ∷ []) z ≡ true) h.0 (has_head a [])
line_begins t n (a ∷ p ∷ more) h = subst (λ z. has_node (a ∷ p ∷ more) z ≡ true) h.0 (has_head a (p ∷ more))

-- a node before its parent's line is its line
pub line_cons : (t : Ancestry) (n p : Node) (ns : List Node) → parent_of t n ≡ Some p → IsLine t p ns → IsLine t n (n ∷ ns)
line_cons t n p [] e h = absurd h
line_cons t n p (a ∷ []) e h = (refl, e ∙ ap Some (sym h.0), (refl, subst (λ z. parent_of t z ≡ None) (sym h.0) h.1))
line_cons t n p (a ∷ q ∷ more) e h = (refl, e ∙ ap Some (sym h.0), (refl, subst (λ z. parent_of t z ≡ Some q) (sym h.0) h.1, h.2))

-- one step of a line
pub line_step : (t : Ancestry) (n : Node) → IsForest t → line t n ≡ n ∷ line_above (line t) (parent_of t n)
line_step t n forest = by_parent (parent_of t n) refl
  where
    by_parent : (o : Option Node) → parent_of t n ≡ o → line t n ≡ n ∷ line_above (line t) o
    by_parent None e = sym (line_is t n (n ∷ []) forest (refl, e))
    by_parent (Some p) e = sym (line_is t n (n ∷ line t p) forest (line_cons t n p (line t p) e (forest.lines p)))

-- ---- the rest of a line, from one of its nodes

pub record Rest (t : Ancestry) (m : Node) (ns : List Node) : Type 0 where
  pub rest : List Node
  pub is : IsLine t m rest
  pub short : length rest ≤ length ns
  pub within : (q : Node) → has_node rest q ≡ true → has_node ns q ≡ true

whole_line : (t : Ancestry) (n m : Node) (ns : List Node) → m ≡ n → IsLine t n ns → Rest t m ns
whole_line t n m ns e h = record { rest = ns; is = subst (λ z. IsLine t z ns) (sym e) h; short = omega arith; within = λ q g. g }

pub rest_from : (t : Ancestry) (n m : Node) (ns : List Node) → IsLine t n ns → has_node ns m ≡ true → Rest t m ns
rest_from t n m [] h g = absurd h
rest_from t n m (a ∷ []) h g =
    has_cases m a [] g
    (λ e. whole_line t n m (a ∷ []) (e ∙ h.0) h)
    (λ e. absurd (false≢true e))
rest_from t n m (a ∷ p ∷ more) h g =
    has_cases m a (p ∷ more) g
    (λ e. whole_line t n m (a ∷ p ∷ more) (e ∙ h.0) h)
    (λ e. let r = rest_from t p m (p ∷ more) h.2 e in
    record { rest = r.rest; is = r.is; short = omega (arith, r.short); within = λ q f. has_tail q a (p ∷ more) (r.within q f) })

-- ---- the nodes of a line differ

pub not_above_itself : (t : Ancestry) (n a p : Node) (more : List Node) → IsLine t n (a ∷ p ∷ more)
    → has_node (p ∷ more) n ≡ false
not_above_itself t n a p more h =
    ⊎_elim
    (λ yes. let r = rest_from t p n (p ∷ more) h.2 yes in
    absurd (omega (arith, r.short, ap length (one_line_from t n r.rest (a ∷ p ∷ more) r.is h))))
    (λ no. no)
    (cases_Bool (has_node (p ∷ more) n))

none_is : (n : Node) (ns : List Node) → has_node ns n ≡ false → AllByRecursion (λ m. eq_by_cmp node_cmp n m ≡ false) ns
none_is n [] h = tt
none_is n (m ∷ ns) h = let b = or_parts (same_node n m) (has_node ns n) h in (sym (node_ties n m) ∙ b.0, none_is n ns b.1)

pub line_distinct : (t : Ancestry) (n : Node) (ns : List Node) → IsLine t n ns → IsDistinct (eq_by_cmp node_cmp) ns
unfolding IsDistinct
line_distinct t n [] h = absurd h
line_distinct t n (a ∷ []) h = (tt, tt)
line_distinct t n (a ∷ p ∷ more) h = (
  none_is a (p ∷ more) (subst (λ z. has_node (p ∷ more) z ≡ false) (sym h.0) (not_above_itself t n a p more h)),
  line_distinct t p (p ∷ more) h.2,
)

-- ---- the nodes of a known node's line are known

pub line_known : (t : Ancestry) → ((n p : Node) → parent_of t n ≡ Some p → knows t p ≡ true) → (n : Node) (ns : List Node)
    → IsLine t n ns → knows t n ≡ true
    → (q : Node) → has_node ns q ≡ true → knows t q ≡ true
line_known t parents n [] h k q g = absurd h
line_known t parents n (a ∷ []) h k q g =
    has_cases q a [] g (λ e. subst (λ z. knows t z ≡ true) (sym (e ∙ h.0)) k) (λ e. absurd (false≢true e))
line_known t parents n (a ∷ p ∷ more) h k q g =
    has_cases q a (p ∷ more) g
    (λ e. subst (λ z. knows t z ≡ true) (sym (e ∙ h.0)) k)
    (λ e. line_known t parents p (p ∷ more) h.2 (parents n p h.1) q e)

-- ---- how long a line is

pub unknown_has_none : (t : Ancestry) (n : Node) → knows t n ≡ false → parent_of t n ≡ None
unknown_has_none t n h = of_known (known_at t n) h
  where
    of_known : (o : Option (Option Node)) → is_some o ≡ false → option_flatten o ≡ None
    of_known None h = refl
    of_known (Some v) h = absurd (cc)

-- a list has a node by either test
pub same_tests : (q : Node) (ms : List Node) → list_any (eq_by_cmp node_cmp q) ms ≡ has_node ms q
same_tests q [] = refl
same_tests q (m ∷ ms) = λ i. sym (node_ties q m) i || same_tests q ms i

known_length : (t : Ancestry) → ((n p : Node) → parent_of t n ≡ Some p → knows t p ≡ true) → (n : Node) (ns : List Node)
    → IsLine t n ns → knows t n ≡ true → length ns ≤ length t
known_length t parents n ns h k =
    length-le_from_keys (eq_by_cmp_equiv node_cmp_total) ns t (line_distinct t n ns h)
    (λ q g. line_known t parents n ns h k q (sym (same_tests q ns) ∙ g))

root_length : (t : Ancestry) (n : Node) (ns : List Node) → IsLine t n ns → parent_of t n ≡ None → length ns ≤ 1
root_length t n [] h e = absurd h
root_length t n (a ∷ []) h e = omega arith
root_length t n (a ∷ p ∷ more) h e = absurd (cc (h.1, e))

pub line_length : (t : Ancestry) → ((n p : Node) → parent_of t n ≡ Some p → knows t p ≡ true) → (n : Node) (ns : List Node)
    → IsLine t n ns → length ns ≤ length t + 1
line_length t parents n ns h =
    ⊎_elim
    (λ yes. omega (arith, known_length t parents n ns h yes))
    (λ no. omega (arith, root_length t n ns h (unknown_has_none t n no)))
    (cases_Bool (knows t n))

-- so many steps are enough for it
pub enough_steps : (steps : ℕ) (t : Ancestry) (n : Node) (ns : List Node) → IsLine t n ns → length ns ≤ steps + 1
    → line_within steps t n ≡ ns
enough_steps steps t n [] h l = absurd h
enough_steps zero t n (a ∷ []) h l = ap (λ z. z ∷ []) (sym h.0)
enough_steps zero t n (a ∷ p ∷ more) h l = absurd (omega arith)
enough_steps (suc steps) t n (a ∷ []) h l = λ i. sym h.0 i ∷ line_above (λ z. line_within steps t z) (h.1 i)
enough_steps (suc steps) t n (a ∷ p ∷ more) h l =
    let above = enough_steps steps t p (p ∷ more) h.2 (omega arith) in
    (λ i. sym h.0 i ∷ line_above (λ z. line_within steps t z) (h.1 i)) ∙ ap (λ ms. a ∷ ms) above

-- a list of links is an ancestry where each node has some line
pub IsForest-from : (t : Ancestry) → IsStrictlySortedBy node_cmp (keys_of t) → ((n : Node) → knows t n ≡ true → IsNode n)
    → ((n p : Node) → parent_of t n ≡ Some p → knows t p ≡ true) → ((n : Node) → (ns : List Node) × IsLine t n ns) → IsForest t
IsForest-from t ascending valid parents lines = record {
  ascending = ascending;
  valid = valid;
  parents = parents;
  lines = λ n. subst (IsLine t n)
      (sym (enough_steps (length t) t n (lines n).0 (lines n).1 (line_length t parents n (lines n).0 (lines n).1))) (lines n).1;
}

-- ---- one step up a line

pub line_up : (t : Ancestry) (n p : Node) → IsForest t → parent_of t n ≡ Some p → line t n ≡ n ∷ line t p
line_up t n p forest e = line_step t n forest ∙ ap (λ o. n ∷ line_above (line t) o) e

pub here_in_line : (t : Ancestry) (n q : Node) → IsForest t → same_node q n ≡ true → has_node (line t n) q ≡ true
here_in_line t n q forest h =
    ap (λ ns. has_node ns q) (line_step t n forest) ∙ or_left (same_node q n) (has_node (line_above (line t) (parent_of t n)) q) h

pub up_in_line : (t : Ancestry) (n p q : Node) → IsForest t → parent_of t n ≡ Some p → same_node q n ≡ false
    → has_node (line t n) q ≡ has_node (line t p) q
up_in_line t n p q forest e h = ap (λ ns. has_node ns q) (line_up t n p forest e) ∙ ap (λ b. b || has_node (line t p) q) h

pub shorter_up : (t : Ancestry) (n p : Node) → IsForest t → parent_of t n ≡ Some p → length (line t p) < length (line t n)
shorter_up t n p forest e = omega (arith, ap length (line_up t n p forest e))

pub ancestors_up : (t : Ancestry) (n p q : Node) → IsForest t → parent_of t n ≡ Some p → has_node (line t p) q ≡ is_ancestor t q n
ancestors_up t n p q forest e = ap (λ ns. has_node (drop 1 ns) q) (sym (line_up t n p forest e))
