-- The parents that a tree finds by the texts of nodes, as its links change.
use Rattle.std.proofs.Common.{◌≡◌, ℕ, ◌+◌, ◌<◌, true, false, ◌&&◌, ◌||◌, cond, List, [], ◌∷◌, length, drop, get_or, Option, Some, None}
use Rattle.std.proofs.Common.{is_some, All, refl, sym, ap, ◌∙◌, subst, ⊎_elim, ◌⊎◌, inl, inr}
use Rattle.std.specs.Prelude.{is_none}
use Rattle.std.proofs.lemmas.Bool.{cases_Bool, and_right, false≢true}
use Rattle.std.proofs.lemmas.List.{at_drop_more}
use Rattle.std.proofs.lemmas.List.Elements.{All-head, All-tail}
use Rattle.std.specs.BTreeMap.{insert_entry}
use Rattle.std.specs.HashMap.{HashMap, IsEmpty, get}
use Rattle.std.specs.List.Sorted.{IsStrictlySortedBy}
use Rattle.std.specs.Map.{keys_of, lookup}
use Rattle.std.specs.Option.{option_flatten}
use Rattle.version_nodes.specs.Nodes.{Node, same_node, node_cmp}
use Rattle.version_nodes.specs.Trees.{Ancestry, has_node, known_at, knows, parent_of}
use Rattle.version_nodes.specs.Branches.{with_parent, may_change}
use Rattle.ancestry.specs.Kept.{HasParents}
use Rattle.version_nodes.proofs.NodeLemmas.{same_true, same_itself, same_back, past_first}
use Rattle.ancestry.proofs.BranchLemmas.{parent_put, parent_others, learnt_parents}
use Rattle.ancestry.proofs.LineLemmas.{unknown_has_none}
use Rattle.ancestry.proofs.WholeLemmas.{links_known, none_of}

some_of : (o : Option Node) → is_some o ≡ true → is_none o ≡ false
some_of None h = absurd (cc)
some_of (Some n) h = refl

-- ---- one node

-- a node that becomes known has no parent
pub above_learnt : {S : Type 0} (t : Ancestry) (n : Node) (above : HashMap Node Node S) → knows t n ≡ false → HasParents t above
    → HasParents (insert_entry node_cmp t n None) above
above_learnt t n above off has q = has q ∙ sym (learnt_parents t n off q)

-- a node gets its parent
pub above_based : {S : Type 0} (t : Ancestry) (n p : Node) (above above' : HashMap Node Node S) → HasParents t above
    → ((q : Node) → get same_node above' q ≡ cond (same_node n q) (Some p) (get same_node above q))
    → HasParents (with_parent t n p) above'
above_based t n p above above' has made q =
    ⊎_elim
    (λ yes. made q ∙ ap (λ b. cond b (Some p) (get same_node above q)) yes
    ∙ sym (ap (parent_of (with_parent t n p)) (sym (same_true n q yes)) ∙ parent_put t n (Some p)))
    (λ other. made q ∙ ap (λ b. cond b (Some p) (get same_node above q)) other ∙ has q
    ∙ sym (parent_others t n (Some p) q (same_back n q other)))
    (cases_Bool (same_node n q))

-- a parent that was put is taken away again
pub above_back : (n p : Node) (f put back : Node → Option Node) → f n ≡ None → ((q : Node) → put q ≡ cond (same_node n q) (Some p) (f q))
    → ((q : Node) → back q ≡ cond (same_node n q) None (put q)) → (q : Node) → back q ≡ f q
above_back n p f put back none made taken q =
    ⊎_elim
    (λ yes. taken q ∙ ap (λ b. cond b None (put q)) yes ∙ sym none ∙ ap f (same_true n q yes))
    (λ other. taken q ∙ ap (λ b. cond b None (put q)) other ∙ made q ∙ ap (λ b. cond b (Some p) (f q)) other)
    (cases_Bool (same_node n q))

-- ---- putting back

-- what is found of a node is its parent, but perhaps where the node is of the list and has none
abbrev pub FitsBut : Ancestry → List Node → (Node → Option Node) → Type 0
FitsBut t nodes f = (q : Node) → may_change t nodes q ≡ false → f q ≡ parent_of t q

-- one more node of a list is seen to
module _ (t : Ancestry) (nodes : List Node) (i : ℕ) (n : Node) (l : i < length nodes) (here : n ≡ get_or nodes i n) where
  split : (f : Node → Option Node) → FitsBut t (drop i nodes) f → FitsBut t (n ∷ drop (i + 1) nodes) f
  split f a =
      subst (λ ns. FitsBut t ns f) (at_drop_more (λ ns. ns) nodes i n l ∙ ap (λ m. m ∷ drop (i + 1) nodes) (sym here)) a

  abbrev rest : List Node
  rest = drop (i + 1) nodes

  pub forget_none : (f : Node → Option Node) → is_some (parent_of t n) ≡ true → FitsBut t (drop i nodes) f → FitsBut t rest f
  forget_none f had fits q off =
      ⊎_elim
      (λ is. split f fits q
      (and_right (has_node (n ∷ rest) q) (is_none (parent_of t q)) (ap (λ m. is_none (parent_of t m)) (same_true q n is) ∙ some_of (parent_of t n) had)))
      (λ other. split f fits q (ap (λ b. (b || has_node rest q) && is_none (parent_of t q)) other ∙ off))
      (cases_Bool (same_node q n))

  pub forget_one : (f g : Node → Option Node) → is_some (parent_of t n) ≡ false
      → ((q : Node) → g q ≡ cond (same_node n q) None (f q)) → FitsBut t (drop i nodes) f → FitsBut t rest g
  forget_one f g root taken fits q off =
      ⊎_elim
      (λ is. taken q ∙ ap (λ b. cond b None (f q)) (ap (same_node n) (same_true q n is) ∙ same_itself n)
      ∙ sym (ap (parent_of t) (same_true q n is) ∙ none_of (parent_of t n) root))
      (λ other. taken q ∙ ap (λ b. cond b None (f q)) (same_back q n other)
      ∙ split f fits q (ap (λ b. (b || has_node rest q) && is_none (parent_of t q)) other ∙ off))
      (cases_Bool (same_node q n))

-- ---- all links at once

-- these links are left, and of the nodes of the others the parents are found
pub record SoFar (t es : Ancestry) (f : Node → Option Node) : Type 0 where
  pub links : All (λ e. known_at t e.0 ≡ Some e.1) es
  pub reached : (n : Node) → (f n ≡ parent_of t n) ⊎ ((knows es n ≡ true) × (f n ≡ None))

-- a map with no entries has no parent
pub none_there : {S : Type 0} (above : HashMap Node Node S) → IsEmpty above → (n : Node) → get same_node above n ≡ None
none_there above none n = ap (lookup (same_node n)) none

pub none_reached : (t : Ancestry) (f : Node → Option Node) → IsStrictlySortedBy node_cmp (keys_of t) → ((n : Node) → f n ≡ None)
    → SoFar t t f
none_reached t f up none = record {
  links = links_known t up;
  reached = λ n.
      ⊎_elim
      (λ yes. inr (yes, none n))
      (λ off. inl (none n ∙ sym (unknown_has_none t n off)))
      (cases_Bool (knows t n));
}

module _ (t es : Ancestry) (e : Node × Option Node) (f g : Node → Option Node) (s : SoFar t (e ∷ es) f) where
  link : known_at t e.0 ≡ Some e.1
  link = All-head (λ d. known_at t d.0 ≡ Some d.1) e es s.links

  left : All (λ d. known_at t d.0 ≡ Some d.1) es
  left = All-tail (λ d. known_at t d.0 ≡ Some d.1) e es s.links

  above_is : (o : Option Node) → e.1 ≡ o → (n : Node) → same_node n e.0 ≡ true → parent_of t n ≡ o
  above_is o is n same = ap (parent_of t) (same_true n e.0 same) ∙ ap option_flatten link ∙ is

  -- another node than this one stands as before
  other_stands : (n : Node) → same_node n e.0 ≡ false → g n ≡ f n
      → (g n ≡ parent_of t n) ⊎ ((knows es n ≡ true) × (g n ≡ None))
  other_stands n other same =
      ⊎_elim
      (λ is. inl (same ∙ is))
      (λ h. inr (ap is_some (sym (past_first n e.0 e.1 es other)) ∙ h.0, same ∙ h.1))
      (s.reached n)

  pub root_reached : e.1 ≡ None → ((n : Node) → g n ≡ f n) → SoFar t es g
  root_reached is same = record {
    links = left;
    reached = λ n.
        ⊎_elim
        (λ yes. inl (same n ∙ ⊎_elim (λ h. h) (λ h. h.1 ∙ sym (above_is None is n yes)) (s.reached n)))
        (λ other. other_stands n other (same n))
        (cases_Bool (same_node n e.0));
  }

  pub child_reached : (p : Node) → e.1 ≡ Some p → ((n : Node) → g n ≡ cond (same_node e.0 n) (Some p) (f n)) → SoFar t es g
  child_reached p is put = record {
    links = left;
    reached = λ n.
        ⊎_elim
        (λ yes. inl (put n ∙ ap (λ b. cond b (Some p) (f n)) (ap (same_node e.0) (same_true n e.0 yes) ∙ same_itself e.0)
        ∙ sym (above_is (Some p) is n yes)))
        (λ other. other_stands n other (put n ∙ ap (λ b. cond b (Some p) (f n)) (same_back n e.0 other)))
        (cases_Bool (same_node n e.0));
  }

pub all_reached : (t : Ancestry) (f : Node → Option Node) → SoFar t [] f → (n : Node) → f n ≡ parent_of t n
all_reached t f s n = ⊎_elim (λ is. is) (λ h. absurd (false≢true h.0)) (s.reached n)
