-- Nodes are told apart by their texts, in lists of nodes and in an ancestry.
use Rattle.std.proofs.Common.{◌≡◌, true, false, cond, List, [], ◌∷◌, Option, Some, is_some, Decides, Ordering, Less, Equal, Greater}
use Rattle.std.proofs.Common.{refl, sym, ap, ◌∙◌, subst, ⊎_elim}
use Rattle.std.proofs.lemmas.Bool.{cases_Bool, false≢true, or_left, or_right, or_cases}
use Rattle.std.proofs.lemmas.Bool.Decides.{Decides-and, Decides-like}
use Rattle.std.specs.BTreeMap.{insert_entry}
use Rattle.std.specs.Cmp.Lexicographic.{bytes_decides}
use Rattle.std.specs.Map.{keys_of}
use Rattle.std.specs.Ordering.{is_eq, match_ordering}
use Rattle.version_nodes.specs.Nodes.{Node, IsNode, same_node, node_cmp}
use Rattle.version_nodes.specs.NodeLaws.{same_node_equiv, node_ties}
use Rattle.version_nodes.specs.Trees.{Ancestry, has_node, known_at, knows, IsForest}

same_decides : (a b : Node) → Decides (same_node a b) (a ≡ b)
same_decides a b =
    Decides-like _ (λ e i. record { source = e.0 i; version = e.1 i }) (λ e. (ap (λ n. n.source) e, ap (λ n. n.version) e))
    (Decides-and _ _ (bytes_decides a.source b.source) (bytes_decides a.version b.version))

pub same_true : (a b : Node) → same_node a b ≡ true → a ≡ b
same_true a b = (same_decides a b).0

pub same_itself : (a : Node) → same_node a a ≡ true
same_itself a = (same_decides a a).1 refl

pub same_back : (a b : Node) → same_node a b ≡ false → same_node b a ≡ false
same_back a b h = same_node_equiv.symm b a ∙ h

-- the order tells nodes apart as their texts do
pub ties_same : (a b : Node) → is_eq (node_cmp a b) ≡ same_node a b
ties_same a b = sym (node_ties a b)

pub ties_node : (a b : Node) → node_cmp a b ≡ Equal → a ≡ b
ties_node a b h = same_true a b (node_ties a b ∙ ap is_eq h)

-- ---- a node in a list

pub has_head : (n : Node) (nodes : List Node) → has_node (n ∷ nodes) n ≡ true
has_head n nodes = or_left (same_node n n) (has_node nodes n) (same_itself n)

pub has_tail : (n m : Node) (nodes : List Node) → has_node nodes n ≡ true → has_node (m ∷ nodes) n ≡ true
has_tail n m nodes h = or_right (same_node n m) (has_node nodes n) h

pub has_cases : {P : Type 0} (n m : Node) (nodes : List Node) → has_node (m ∷ nodes) n ≡ true → (n ≡ m → P)
    → (has_node nodes n ≡ true → P) → P
has_cases n m nodes h f g = ⊎_elim (λ e. f (same_true n m e)) g (or_cases (same_node n m) (has_node nodes n) h)

-- ---- what is known of a node after one is put in

pub at_first : (n : Node) (v : Option Node) (t : Ancestry) → known_at ((n, v) ∷ t) n ≡ Some v
at_first n v t = ap (λ b. cond b (Some v) (known_at t n)) (ties_same n n ∙ same_itself n)

pub past_first : (q n : Node) (v : Option Node) (t : Ancestry) → same_node q n ≡ false → known_at ((n, v) ∷ t) q ≡ known_at t q
past_first q n v t h = ap (λ b. cond b (Some v) (known_at t q)) (ties_same q n ∙ h)

-- the list after one is put in, by how the node compares to the first
pub put_step : (n : Node) (v : Option Node) (e : Node × Option Node) (t : Ancestry) (r : Ordering) → node_cmp n e.0 ≡ r
    → insert_entry node_cmp (e ∷ t) n v ≡ match_ordering r ((n, v) ∷ e ∷ t) ((e.0, v) ∷ t) (e ∷ insert_entry node_cmp t n v)
put_step n v e t r h = ap (λ o. match_ordering o ((n, v) ∷ e ∷ t) ((e.0, v) ∷ t) (e ∷ insert_entry node_cmp t n v)) h

pub known_put : (t : Ancestry) (n : Node) (v : Option Node) → known_at (insert_entry node_cmp t n v) n ≡ Some v
known_put [] n v = at_first n v []
known_put (e ∷ t) n v = by_order n v e t (node_cmp n e.0) refl (known_put t n v)
  where
    by_order : (n : Node) (v : Option Node) (e : Node × Option Node) (t : Ancestry) (r : Ordering) → node_cmp n e.0 ≡ r
        → known_at (insert_entry node_cmp t n v) n ≡ Some v → known_at (insert_entry node_cmp (e ∷ t) n v) n ≡ Some v
    by_order n v e t Less h again = ap (λ u. known_at u n) (put_step n v e t Less h) ∙ at_first n v (e ∷ t)
    by_order n v e t Equal h again =
        ap (λ u. known_at u n) (put_step n v e t Equal h) ∙ ap (λ m. known_at ((m, v) ∷ t) n) (sym (ties_node n e.0 h))
        ∙ at_first n v t
    by_order n v e t Greater h again =
        ap (λ u. known_at u n) (put_step n v e t Greater h)
        ∙ past_first n e.0 e.1 (insert_entry node_cmp t n v) (sym (ties_same n e.0) ∙ ap is_eq h) ∙ again

pub known_others : (t : Ancestry) (n : Node) (v : Option Node) (q : Node) → same_node q n ≡ false
    → known_at (insert_entry node_cmp t n v) q ≡ known_at t q
known_others [] n v q apart = past_first q n v [] apart
known_others (e ∷ t) n v q apart = by_order n v q e t apart (node_cmp n e.0) refl (known_others t n v q apart)
  where
    by_order : (n : Node) (v : Option Node) (q : Node) (e : Node × Option Node) (t : Ancestry) → same_node q n ≡ false
        → (r : Ordering) → node_cmp n e.0 ≡ r
        → known_at (insert_entry node_cmp t n v) q ≡ known_at t q
        → known_at (insert_entry node_cmp (e ∷ t) n v) q ≡ known_at (e ∷ t) q
    by_order n v q e t apart Less h again = ap (λ u. known_at u q) (put_step n v e t Less h) ∙ past_first q n v (e ∷ t) apart
    by_order n v q e t apart Equal h again =
        let apart-e : same_node q e.0 ≡ false = subst (λ m. same_node q m ≡ false) (ties_node n e.0 h) apart in
        ap (λ u. known_at u q) (put_step n v e t Equal h) ∙ past_first q e.0 v t apart-e ∙ sym (past_first q e.0 e.1 t apart-e)
    by_order n v q e t apart Greater h again =
        ap (λ u. known_at u q) (put_step n v e t Greater h) ∙ ap (λ x. cond (is_eq (node_cmp q e.0)) (Some e.1) x) again

-- ---- the nodes that an ancestry lists

-- a node of the list is known
listed_known : (t : Ancestry) (q : Node) → has_node (keys_of t) q ≡ true → knows t q ≡ true
listed_known [] q h = absurd (false≢true h)
listed_known (e ∷ t) q h =
    has_cases q e.0 (keys_of t) h
    (λ is. subst (λ m. knows (e ∷ t) m ≡ true) (sym is) (ap is_some (at_first e.0 e.1 t)))
    (λ more. ⊎_elim (λ yes. ap (λ b. is_some (cond b (Some e.1) (known_at t q))) yes)
    (λ off. ap (λ b. is_some (cond b (Some e.1) (known_at t q))) off ∙ listed_known t q more)
    (cases_Bool (is_eq (node_cmp q e.0))))

pub listed_valid : (t : Ancestry) (q : Node) → IsForest t → has_node (keys_of t) q ≡ true → IsNode q
listed_valid t q forest h = forest.valid q (listed_known t q h)
