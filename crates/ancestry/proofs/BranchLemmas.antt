-- What a branch does to an ancestry: it stays one, no proper ancestor is lost, and the nodes are
-- based on one another.
use Rattle.std.proofs.Common.{◌≡◌, true, false, cond, List, [], ◌∷◌, ◌++◌, Option, Some, None, is_some, sym, ap, ◌∙◌, subst, ⊎_elim}
use Rattle.std.proofs.lemmas.Bool.{cases_Bool, false≢true, or_parts}
use Rattle.std.specs.BTreeMap.{insert_entry}
use Rattle.version_nodes.specs.Nodes.{Node, IsNode, same_node, node_cmp}
use Rattle.std.specs.Option.{option_flatten}
use Rattle.version_nodes.specs.Trees.{Ancestry, has_node, knows, parent_of, IsLine, line, IsForest}
use Rattle.version_nodes.specs.Branches.{learn, with_parent}
use Rattle.version_nodes.proofs.NodeLemmas.{same_true, known_put, known_others}
use Rattle.ancestry.proofs.LinkLemmas.{ascends_put}
use Rattle.ancestry.proofs.LineLemmas.{line_begins, line_cons, unknown_has_none, IsForest-from}

-- ---- a node that becomes known

module _ (t : Ancestry) (n : Node) (v : Option Node) where
  abbrev put : Ancestry
  put = insert_entry node_cmp t n v

  pub knows_put : knows put n ≡ true
  knows_put = ap is_some (known_put t n v)

  pub knows_kept : (q : Node) → knows t q ≡ true → knows put q ≡ true
  knows_kept q h =
      ⊎_elim
      (λ yes. subst (λ m. knows put m ≡ true) (sym (same_true q n yes)) knows_put)
      (λ no. ap is_some (known_others t n v q no) ∙ h)
      (cases_Bool (same_node q n))

  pub parent_put : parent_of put n ≡ v
  parent_put = ap option_flatten (known_put t n v)

  pub parent_others : (q : Node) → same_node q n ≡ false → parent_of put q ≡ parent_of t q
  parent_others q other = ap option_flatten (known_others t n v q other)

module _ (t : Ancestry) (n : Node) (unknown : knows t n ≡ false) where
  pub learnt_parents : (q : Node) → parent_of (insert_entry node_cmp t n None) q ≡ parent_of t q
  learnt_parents q =
      ⊎_elim
      (λ yes. let is = same_true q n yes in
      ap (parent_of (insert_entry node_cmp t n None)) is ∙ parent_put t n None
      ∙ sym (ap (parent_of t) is ∙ unknown_has_none t n unknown))
      (λ other. parent_others t n None q other)
      (cases_Bool (same_node q n))

  pub learnt_lines : (q : Node) (ns : List Node) → IsLine t q ns → IsLine (insert_entry node_cmp t n None) q ns
  learnt_lines q [] h = h
  learnt_lines q (a ∷ []) h = (h.0, learnt_parents q ∙ h.1)
  learnt_lines q (a ∷ p ∷ more) h = (h.0, learnt_parents q ∙ h.1, learnt_lines p (p ∷ more) h.2)

module _ (t : Ancestry) (n : Node) (forest : IsForest t) (unknown : knows t n ≡ false) where
  abbrev learnt : Ancestry
  learnt = insert_entry node_cmp t n None

  pub learnt_forest : IsNode n → IsForest learnt
  learnt_forest valid =
      IsForest-from learnt (ascends_put t n None forest.ascending)
      (λ q h. ⊎_elim (λ yes. subst IsNode (sym (same_true q n yes)) valid)
      (λ no. forest.valid q (sym (ap is_some (known_others t n None q no)) ∙ h)) (cases_Bool (same_node q n)))
      (λ q p h. knows_kept t n None p (forest.parents q p (sym (learnt_parents t n unknown q) ∙ h)))
      (λ q. (line t q, learnt_lines t n unknown q (line t q) (forest.lines q)))

-- no node gets a parent where one becomes known
pub learn_parents : (t : Ancestry) (n q : Node) → parent_of (learn t n) q ≡ parent_of t q
learn_parents t n q =
    ⊎_elim
    (λ yes. ap (λ b. parent_of (cond b t (insert_entry node_cmp t n None)) q) yes)
    (λ off. ap (λ b. parent_of (cond b t (insert_entry node_cmp t n None)) q) off ∙ learnt_parents t n off q)
    (cases_Bool (knows t n))

-- ---- a node that gets a parent

pub record Longer (t : Ancestry) (n : Node) (ns : List Node) : Type 0 where
  pub more : List Node
  pub is : IsLine t n (ns ++ more)

module _ (t : Ancestry) (n p : Node) (forest : IsForest t) (known-n : knows t n ≡ true) (known-p : knows t p ≡ true)
    (root : parent_of t n ≡ None) (apart : has_node (line t p) n ≡ false) where
  abbrev based : Ancestry
  based = with_parent t n p

  differs : (q : Node) (ns : List Node) → has_node ns q ≡ true → has_node ns n ≡ false → same_node q n ≡ false
  differs q ns here apart-n =
      ⊎_elim
      (λ yes. absurd (false≢true (sym apart-n ∙ subst (λ m. has_node ns m ≡ true) (same_true q n yes) here)))
      (λ other. other)
      (cases_Bool (same_node q n))

  lines_stay : (q : Node) (ns : List Node) → IsLine t q ns → has_node ns n ≡ false → IsLine based q ns
  lines_stay q [] h off = h
  lines_stay q (a ∷ []) h off = (h.0, parent_others t n (Some p) q (differs q (a ∷ []) (line_begins t q (a ∷ []) h) off) ∙ h.1)
  lines_stay q (a ∷ r ∷ more) h off = (
    h.0,
    parent_others t n (Some p) q (differs q (a ∷ r ∷ more) (line_begins t q (a ∷ r ∷ more) h) off) ∙ h.1,
    lines_stay r (r ∷ more) h.2 (or_parts (same_node n a) (has_node (r ∷ more) n) off).1,
  )

  -- the line of the node is itself and its parent's
  pub based_line : IsLine based n (n ∷ line t p)
  based_line = line_cons based n p (line t p) (parent_put t n (Some p)) (lines_stay p (line t p) (forest.lines p) apart)

  at_root : (q a : Node) → a ≡ q → parent_of t q ≡ None → Longer based q (a ∷ [])
  at_root q a e h =
      ⊎_elim
      (λ yes. record {
        more = line t p;
        is =
            subst (λ z. IsLine based z (a ∷ line t p)) (sym (same_true q n yes))
            (subst (λ z. IsLine based n (z ∷ line t p)) (sym (e ∙ same_true q n yes)) based_line);
      })
      (λ other. record { more = []; is = (e, parent_others t n (Some p) q other ∙ h) })
      (cases_Bool (same_node q n))

  has_parent : (q r : Node) → parent_of t q ≡ Some r → same_node q n ≡ false
  has_parent q r h = ⊎_elim (λ yes. absurd (cc (ap (parent_of t) (same_true q n yes), h, root))) (λ other. other)
      (cases_Bool (same_node q n))

  -- each line goes on at most
  pub longer : (q : Node) (ns : List Node) → IsLine t q ns → Longer based q ns
  longer q [] h = absurd h
  longer q (a ∷ []) h = at_root q a h.0 h.1
  longer q (a ∷ r ∷ more) h =
      let above = longer r (r ∷ more) h.2 in
      record { more = above.more; is = (h.0, parent_others t n (Some p) q (has_parent q r h.1) ∙ h.1, above.is) }

  knows_based : (q : Node) → knows based q ≡ true → knows t q ≡ true
  knows_based q h =
      ⊎_elim
      (λ yes. subst (λ m. knows t m ≡ true) (sym (same_true q n yes)) known-n)
      (λ other. sym (ap is_some (known_others t n (Some p) q other)) ∙ h)
      (cases_Bool (same_node q n))

  parents_based : (q r : Node) → parent_of based q ≡ Some r → knows t r ≡ true
  parents_based q r h =
      ⊎_elim
      (λ yes. let is : Some r ≡ Some p = sym h ∙ ap (parent_of based) (same_true q n yes) ∙ parent_put t n (Some p) in
      let same : r ≡ p = cc in subst (λ m. knows t m ≡ true) (sym same) known-p)
      (λ other. forest.parents q r (sym (parent_others t n (Some p) q other) ∙ h))
      (cases_Bool (same_node q n))

  pub based_forest : IsForest based
  based_forest =
      IsForest-from based (ascends_put t n (Some p) forest.ascending)
      (λ q h. forest.valid q (knows_based q h))
      (λ q r h. knows_kept t n (Some p) r (parents_based q r h))
      (λ q. let l = longer q (line t q) (forest.lines q) in (line t q ++ l.more, l.is))
