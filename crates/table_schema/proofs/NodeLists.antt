-- What a row that is added or left out makes of the nodes that the rows say, and which links the
-- rows have.
-- Nothing here speaks of a statement.
use Rattle.table_schema.proofs.Imports.{◌≡◌, Bool, true, false, not, cond, if◌then◌else◌, filter, map, List, [], ◌∷◌, ◌++◌, append-nil, Option, Some, None, is_some, Ordering, Less, Equal, Greater, refl, sym, ap, subst, ◌∙◌, true≢false, AllByRecursion, IsPermutation, IsStrictlySortedBy, is_eq, IsPermutation-refl, IsPermutation-sym, IsPermutation-cons, IsPermutation-trans, IsPermutation-middle, IsPermutation-append_right, IsAscending, Node, same_node, node_cmp, same_node_equiv, Ancestry, no_nodes, known_at, knows, ascends_put, same_links, same_true, ties_same, ties_node, at_first, past_first, put_step, known_put, known_others, NodeRow, with_links, nodes_in}
use Rattle.std.specs.BTreeMap.{insert_entry}
use Rattle.std.specs.Map.{keys_of}
use Rattle.std.proofs.lemmas.List.Kept.{IsStrictlySortedBy-filter}

-- ---- one more row

with_last : (t : Ancestry) (xs : List NodeRow) (x : NodeRow) → with_links t (xs ++ x ∷ []) ≡ insert_entry node_cmp (with_links t xs) x.node x.parent
with_last t [] x = refl
with_last t (y ∷ xs) x = with_last (insert_entry node_cmp t y.node y.parent) xs x

pub one_more : (xs : List NodeRow) (x : NodeRow) → nodes_in (xs ++ x ∷ []) ≡ insert_entry node_cmp (nodes_in xs) x.node x.parent
one_more xs x = with_last no_nodes xs x

-- ---- what is known of a node

-- what the rows say of a node, or else this
abbrev pub said : List NodeRow → Node → Option (Option Node) → Option (Option Node)
said [] q o = o
said (x ∷ xs) q o = said xs q (if same_node q x.node then Some x.parent else o)

known_step : (t : Ancestry) (n : Node) (p : Option Node) (q : Node) → known_at (insert_entry node_cmp t n p) q ≡ (if same_node q n then Some p else known_at t q)
known_step t n p q = go (same_node q n) refl
  where
    go : (b : Bool) → same_node q n ≡ b → known_at (insert_entry node_cmp t n p) q ≡ (if b then Some p else known_at t q)
    go true is = ap (known_at (insert_entry node_cmp t n p)) (same_true q n is) ∙ known_put t n p
    go false is = known_others t n p q is

known_all : (t : Ancestry) (xs : List NodeRow) (q : Node) → known_at (with_links t xs) q ≡ said xs q (known_at t q)
known_all t [] q = refl
known_all t (x ∷ xs) q = known_all (insert_entry node_cmp t x.node x.parent) xs q ∙ ap (said xs q) (known_step t x.node x.parent q)

-- ---- the nodes are in order

ascends : (t : Ancestry) (xs : List NodeRow) → IsStrictlySortedBy node_cmp (keys_of t) → IsStrictlySortedBy node_cmp (keys_of (with_links t xs))
ascends t [] h = h
ascends t (x ∷ xs) h = ascends (insert_entry node_cmp t x.node x.parent) xs (ascends_put t x.node x.parent h)

ascends_none : IsStrictlySortedBy node_cmp (keys_of no_nodes)
unfolding IsStrictlySortedBy
ascends_none = tt

nodes_ascend : (xs : List NodeRow) → IsStrictlySortedBy node_cmp (keys_of (nodes_in xs))
nodes_ascend xs = ascends no_nodes xs ascends_none

keys_kept : (p : Node → Bool) (t : Ancestry) → keys_of (filter (λ e. p e.0) t) ≡ filter p (keys_of t)
keys_kept p [] = refl
keys_kept p (e ∷ t) =
    elim (p e.0) as (λ b. keys_of (cond b (e ∷ filter (λ f. p f.0) t) (filter (λ f. p f.0) t)) ≡ cond b (e.0 ∷ filter p (keys_of t)) (filter p (keys_of t)))
    [ true ↦ ap (λ ns. e.0 ∷ ns) (keys_kept p t) | false ↦ keys_kept p t ]

kept_ascend : (p : Node → Bool) (t : Ancestry) → IsStrictlySortedBy node_cmp (keys_of t) → IsStrictlySortedBy node_cmp (keys_of (filter (λ e. p e.0) t))
kept_ascend p t h = subst (IsStrictlySortedBy node_cmp) (sym (keys_kept p t)) (IsStrictlySortedBy-filter node_cmp p (keys_of t) h)

-- ---- the row of a node is left out

none_or_none : (b : Bool) → ◌≡◌ {A = Option (Option Node)} None (if b then None else None)
none_or_none true = refl
none_or_none false = refl

known_kept : (v : Node) (t : Ancestry) (q : Node) → known_at (filter (λ e. not (same_node v e.0)) t) q ≡ (if same_node v q then None else known_at t q)
known_kept v [] q = none_or_none (same_node v q)
known_kept v (e ∷ t) q = go (same_node v e.0) (same_node q e.0) refl refl (known_kept v t q)
  where
    first : same_node q e.0 ≡ true → (u : Ancestry) → known_at (e ∷ u) q ≡ Some e.1
    first same u = ap (known_at (e ∷ u)) (same_true q e.0 same) ∙ at_first e.0 e.1 u

    go : (a b : Bool) → same_node v e.0 ≡ a → same_node q e.0 ≡ b → known_at (filter (λ f. not (same_node v f.0)) t) q ≡ (if same_node v q then None else known_at t q)
        → known_at (filter (λ f. not (same_node v f.0)) (e ∷ t)) q ≡ (if same_node v q then None else known_at (e ∷ t) q)
    go true true p r h = let gone : same_node v q ≡ true = ap (same_node v) (same_true q e.0 r) ∙ p in rw (p, gone) (rw gone at h)
    go true false p r h = rw p (h ∙ ap (λ o. if same_node v q then None else o) (sym (past_first q e.0 e.1 t r)))
    go false true p r h = let here : same_node v q ≡ false = ap (same_node v) (same_true q e.0 r) ∙ p in rw (p, here) (first r _ ∙ sym (first r t))
    go false false p r h = rw p (past_first q e.0 e.1 _ r ∙ h ∙ ap (λ o. if same_node v q then None else o) (sym (past_first q e.0 e.1 t r)))

said_none : (v q : Node) → same_node v q ≡ true → (xs : List NodeRow) (o : Option (Option Node)) → said (filter (λ x. not (same_node v x.node)) xs) q o ≡ o
said_none v q same [] o = refl
said_none v q same (x ∷ xs) o = go (same_node v x.node) refl (λ u. said_none v q same xs u)
  where
    go : (b : Bool) → same_node v x.node ≡ b → ((u : Option (Option Node)) → said (filter (λ y. not (same_node v y.node)) xs) q u ≡ u) → said (filter (λ y. not (same_node v y.node)) (x ∷ xs)) q o ≡ o
    go true is more = rw is (more o)
    go false is more = let other : same_node q x.node ≡ false = ap (λ n. same_node n x.node) (sym (same_true v q same)) ∙ is in rw (is, other) (more o)

said_rest : (v q : Node) → same_node v q ≡ false → (xs : List NodeRow) (o : Option (Option Node)) → said (filter (λ x. not (same_node v x.node)) xs) q o ≡ said xs q o
said_rest v q apart [] o = refl
said_rest v q apart (x ∷ xs) o = go (same_node v x.node) refl (λ u. said_rest v q apart xs u)
  where
    go : (b : Bool) → same_node v x.node ≡ b → ((u : Option (Option Node)) → said (filter (λ y. not (same_node v y.node)) xs) q u ≡ said xs q u)
        → said (filter (λ y. not (same_node v y.node)) (x ∷ xs)) q o ≡ said (x ∷ xs) q o
    go true is more = let other : same_node q x.node ≡ false = ap (same_node q) (sym (same_true v x.node is)) ∙ same_node_equiv.symm q v ∙ apart in rw (is, other) (more o)
    go false is more = rw is (more (if same_node q x.node then Some x.parent else o))

pub none_left : (v : Node) (xs : List NodeRow) → nodes_in (filter (λ x. not (same_node v x.node)) xs) ≡ filter (λ e. not (same_node v e.0)) (nodes_in xs)
none_left v xs =
    same_links _ _ (nodes_ascend (filter (λ x. not (same_node v x.node)) xs)) (kept_ascend (λ n. not (same_node v n)) (nodes_in xs) (nodes_ascend xs))
    (λ q. known_all no_nodes (filter (λ x. not (same_node v x.node)) xs) q ∙ go q (same_node v q) refl ∙ sym (known_kept v (nodes_in xs) q))
  where
    go : (q : Node) (b : Bool) → same_node v q ≡ b → said (filter (λ x. not (same_node v x.node)) xs) q None ≡ (if b then None else known_at (nodes_in xs) q)
    go q true same = said_none v q same xs None
    go q false apart = said_rest v q apart xs None ∙ sym (known_all no_nodes xs q)

-- ---- which nodes are there

stays_said : (v : Node) (xs : List NodeRow) (p : Option Node) → is_some (said xs v (Some p)) ≡ true
stays_said v [] p = refl
stays_said v (x ∷ xs) p = elim (same_node v x.node) as (λ b. is_some (said xs v (if b then Some x.parent else Some p)) ≡ true) [ true ↦ stays_said v xs x.parent | false ↦ stays_said v xs p ]

unsaid : (v : Node) (xs : List NodeRow) → is_some (said xs v None) ≡ false → AllByRecursion (λ x. same_node x.node v ≡ false) xs
unsaid v [] h = tt
unsaid v (x ∷ xs) h = go (same_node v x.node) refl h (unsaid v xs)
  where
    go : (b : Bool) → same_node v x.node ≡ b → is_some (said xs v (if b then Some x.parent else None)) ≡ false
        → (is_some (said xs v None) ≡ false → AllByRecursion (λ y. same_node y.node v ≡ false) xs) → AllByRecursion (λ y. same_node y.node v ≡ false) (x ∷ xs)
    go true is h more = absurd (true≢false (sym (stays_said v xs x.parent) ∙ h))
    go false is h more = (same_node_equiv.symm x.node v ∙ is, more h)

-- where a node isn't known, no row is of it
pub no_row : (v : Node) (xs : List NodeRow) → knows (nodes_in xs) v ≡ false → AllByRecursion (λ x. same_node x.node v ≡ false) xs
no_row v xs h = unsaid v xs (ap is_some (sym (known_all no_nodes xs v)) ∙ h)

-- ---- the links of the rows

abbrev pub link_of : NodeRow → Node × Option Node
link_of x = (x.node, x.parent)

-- no node has two rows
abbrev pub AreApart : List NodeRow → Type 0
AreApart xs = IsAscending (λ (a b : NodeRow). same_node a.node b.node ≡ false) xs

-- a link of a node that isn't known comes among the others
in_order : (t : Ancestry) (n : Node) (p : Option Node) → knows t n ≡ false → IsPermutation ((n, p) ∷ t) (insert_entry node_cmp t n p)
in_order [] n p h = IsPermutation-refl ((n, p) ∷ [])
in_order (e ∷ t) n p h = go (node_cmp n e.0) refl (in_order t n p)
  where
    go : (r : Ordering) → node_cmp n e.0 ≡ r → (knows t n ≡ false → IsPermutation ((n, p) ∷ t) (insert_entry node_cmp t n p)) → IsPermutation ((n, p) ∷ e ∷ t) (insert_entry node_cmp (e ∷ t) n p)
    go Less o more = subst (IsPermutation ((n, p) ∷ e ∷ t)) (sym (put_step n p e t Less o)) (IsPermutation-refl _)
    go Equal o more = absurd (true≢false (sym (ap (knows (e ∷ t)) (ties_node n e.0 o) ∙ ap is_some (at_first e.0 e.1 t)) ∙ h))
    go Greater o more =
        let other : same_node n e.0 ≡ false = sym (ties_same n e.0) ∙ ap is_eq o in
        let new : knows t n ≡ false = ap is_some (sym (past_first n e.0 e.1 t other)) ∙ h in
        subst (IsPermutation ((n, p) ∷ e ∷ t)) (sym (put_step n p e t Greater o)) (IsPermutation-trans _ _ _ (IsPermutation-middle ((n, p) ∷ []) e t) (IsPermutation-cons e _ _ (more new)))

still_new : (t : Ancestry) (x : NodeRow) (xs : List NodeRow) → AllByRecursion (λ y. same_node x.node y.node ≡ false) xs → AllByRecursion (λ y. knows t y.node ≡ false) xs
    → AllByRecursion (λ y. knows (insert_entry node_cmp t x.node x.parent) y.node ≡ false) xs
still_new t x [] apart new = tt
still_new t x (y ∷ xs) apart new = (ap is_some (known_others t x.node x.parent y.node (same_node_equiv.symm y.node x.node ∙ apart.0)) ∙ new.0, still_new t x xs apart.1 new.1)

all_links : (t : Ancestry) (xs : List NodeRow) → AreApart xs → AllByRecursion (λ x. knows t x.node ≡ false) xs → IsPermutation (map link_of xs ++ t) (with_links t xs)
all_links t [] apart new = IsPermutation-refl t
all_links t (x ∷ xs) apart new =
    IsPermutation-trans _ _ _ (IsPermutation-sym _ _ (IsPermutation-middle (map link_of xs) (link_of x) t))
    (IsPermutation-trans _ _ _ (IsPermutation-append_right (map link_of xs) _ _ (in_order t x.node x.parent new.0))
    (all_links (insert_entry node_cmp t x.node x.parent) xs apart.1 (still_new t x xs apart.0 new.1)))

none_known : (xs : List NodeRow) → AllByRecursion (λ x. knows no_nodes x.node ≡ false) xs
none_known [] = tt
none_known (x ∷ xs) = (refl, none_known xs)

-- the links of the rows are those that the rows say, in another order
pub links_are : (xs : List NodeRow) → AreApart xs → IsPermutation (nodes_in xs) (map link_of xs)
links_are xs apart = IsPermutation-sym _ _ (subst (λ es. IsPermutation es (nodes_in xs)) (append-nil (map link_of xs)) (all_links no_nodes xs apart (none_known xs)))
