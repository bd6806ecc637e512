-- What may change while a branch is taken, and that it can be put back.
use Rattle.std.proofs.Common.{◌≡◌, ℕ, ◌+◌, ◌<◌, zero, suc, Bool, true, false, ◌&&◌, ◌||◌, cond, List, [], ◌∷◌, length, All}
use Rattle.std.proofs.Common.{get_or, drop, drop_of_length-le, map, min, ◌≤◌, Option, Some, None, is_some, is_none, option_map}
use Rattle.std.proofs.Common.{refl, sym, ap, ◌∙◌, subst, ⊎_elim, arith}
use Rattle.std.proofs.lemmas.Bool.{cases_Bool, false≢true, or_right, and_right}
use Rattle.std.proofs.lemmas.List.{at_drop_more, get_or-map, length-map}
use Rattle.std.proofs.lemmas.List.Elements.{All-head, All-tail}
use Rattle.std.specs.BTreeMap.{insert_entry}
use Rattle.std.specs.List.Sorted.{IsStrictlySortedBy}
use Rattle.std.specs.Map.{keys_of}
use Rattle.std.specs.Ordering.{is_eq}
use Rattle.version_nodes.specs.Nodes.{Node, same_node, node_cmp}
use Rattle.std.specs.Option.{option_flatten}
use Rattle.version_nodes.specs.Trees.{Ancestry, has_node, known_at, knows, parent_of, line, is_ancestor, IsForest}
use Rattle.version_nodes.specs.Branches.{learn, with_parent, base_on}
use Rattle.version_nodes.specs.Branches.{Extends}
use Rattle.ancestry.specs.Changes.{past_of}
use Rattle.ancestry.specs.declared.branch.Past.{Past}
use Rattle.ancestry.specs.declared.branch.Past.TheVariants.{Unknown, Root, Based}
use Rattle.version_nodes.proofs.NodeLemmas.{same_true, same_itself, same_back, ties_same, has_head, has_cases, known_others}
use Rattle.ancestry.proofs.LineLemmas.{unknown_has_none}
use Rattle.ancestry.proofs.BranchLemmas.{knows_kept}
use Rattle.ancestry.proofs.LinkLemmas.{ascends_put, same_links}

pub has_at : (nodes : List Node) (i : ℕ) (n : Node) → i < length nodes → n ≡ get_or nodes i n → has_node nodes n ≡ true
has_at [] i n l e = absurd (omega arith)
has_at (m ∷ nodes) zero n l e = subst (λ z. has_node (m ∷ nodes) z ≡ true) (sym e) (has_head m nodes)
has_at (m ∷ nodes) (suc i) n l e = or_right (same_node n m) (has_node nodes n) (has_at nodes i n (omega arith) e)

-- ---- one change after another

abbrev Ascends : Ancestry → Type 0
Ascends t = IsStrictlySortedBy node_cmp (keys_of t)

pub extends_same : (t : Ancestry) (nodes : List Node) → IsStrictlySortedBy node_cmp (keys_of t) → Extends t nodes t
extends_same t nodes ascending = record { others = λ q h. refl; kept = λ q h. h; ascending = ascending }

pub extends_also : (t u w : Ancestry) (nodes : List Node) → Extends t nodes u → Extends u nodes w → Extends t nodes w
extends_also t u w nodes f g = record {
  others = λ q h. let e = f.others q h in g.others q (ap (λ o. has_node nodes q && is_none (option_flatten o)) e ∙ h) ∙ e;
  kept = λ q h. g.kept q (f.kept q h);
  ascending = g.ascending;
}

-- a node of the list that has no parent is put in
pub extends_put : (t : Ancestry) (nodes : List Node) (n : Node) (v : Option Node) → IsStrictlySortedBy node_cmp (keys_of t)
    → has_node nodes n ≡ true → parent_of t n ≡ None → Extends t nodes (insert_entry node_cmp t n v)
extends_put t nodes n v ascending here root = record {
  others = λ q h.
      ⊎_elim
      (λ yes. let is = same_true q n yes in
      absurd (false≢true (sym (subst (λ m. (has_node nodes m && is_none (parent_of t m)) ≡ false) is h)
      ∙ λ i. here i && is_none (root i))))
      (λ other. known_others t n v q other)
      (cases_Bool (same_node q n));
  kept = knows_kept t n v;
  ascending = ascends_put t n v ascending;
}

pub extends_learn : (t : Ancestry) (nodes : List Node) (n : Node) → IsStrictlySortedBy node_cmp (keys_of t)
    → has_node nodes n ≡ true → Extends t nodes (learn t n)
extends_learn t nodes n ascending here =
    ⊎_elim
    (λ yes. subst (Extends t nodes) (sym (ap (λ b. cond b t (insert_entry node_cmp t n None)) yes))
    (extends_same t nodes ascending))
    (λ off. subst (Extends t nodes) (sym (ap (λ b. cond b t (insert_entry node_cmp t n None)) off))
    (extends_put t nodes n None ascending here (unknown_has_none t n off)))
    (cases_Bool (knows t n))

pub extends_base : (t u : Ancestry) (nodes : List Node) (n p : Node) → IsStrictlySortedBy node_cmp (keys_of t)
    → has_node nodes n ≡ true → base_on t n p ≡ Some u → Extends t nodes u
extends_base t u nodes n p ascending here h = by_tests (is_ancestor t p n) (parent_of t n) refl (has_node (line t p) n) h
  where
    by_tests : (a : Bool) (o : Option Node) → parent_of t n ≡ o → (c : Bool)
        → cond a (Some t) (cond (is_some o || c) None (Some (with_parent t n p))) ≡ Some u → Extends t nodes u
    by_tests true o e c g = subst (Extends t nodes) (cc) (extends_same t nodes ascending)
    by_tests false (Some m) e c g = absurd (cc)
    by_tests false None e true g = absurd (cc)
    by_tests false None e false g = subst (Extends t nodes) (cc) (extends_put t nodes n (Some p) ascending here e)

-- ---- putting back

-- the first node's past is put back
pub put_back_one : (t u u' : Ancestry) (n : Node) (nodes : List Node) → Extends t (n ∷ nodes) u → known_at u' n ≡ known_at t n
    → ((q : Node) → same_node q n ≡ false → known_at u' q ≡ known_at u q) → IsStrictlySortedBy node_cmp (keys_of u')
    → Extends t nodes u'
put_back_one t u u' n nodes f here others ascending = record {
  others = λ q h.
      ⊎_elim
      (λ yes. subst (λ m. known_at u' m ≡ known_at t m) (sym (same_true q n yes)) here)
      (λ other. others q other ∙ f.others q (ap (λ b. (b || has_node nodes q) && is_none (parent_of t q)) other ∙ h))
      (cases_Bool (same_node q n));
  kept = λ q h.
      ⊎_elim
      (λ yes. subst (λ m. knows u' m ≡ true) (sym (same_true q n yes))
      (ap is_some here ∙ subst (λ m. knows t m ≡ true) (same_true q n yes) h))
      (λ other. ap is_some (others q other) ∙ f.kept q h)
      (cases_Bool (same_node q n));
  ascending = ascending;
}

pub past_unknown : (o : Option (Option Node)) → past_of o ≡ Unknown → o ≡ None
past_unknown None h = refl
past_unknown (Some None) h = absurd (cc)
past_unknown (Some (Some p)) h = absurd (cc)

pub past_root : (o : Option (Option Node)) → past_of o ≡ Root → o ≡ Some None
past_root None h = absurd (cc)
past_root (Some None) h = refl
past_root (Some (Some p)) h = absurd (cc)

past_based : (o : Option (Option Node)) → past_of o ≡ Based → is_none (option_flatten o) ≡ false
past_based None h = absurd (cc)
past_based (Some None) h = absurd (cc)
past_based (Some (Some p)) h = refl

-- nothing is to be put back at a node that had a parent
pub put_back_based : (t u : Ancestry) (n : Node) (nodes : List Node) → Extends t (n ∷ nodes) u → past_of (known_at t n) ≡ Based
    → Extends t nodes u
put_back_based t u n nodes f h =
    put_back_one t u u n nodes f
    (f.others n (and_right (has_node (n ∷ nodes) n) (is_none (parent_of t n)) (past_based (known_at t n) h)))
    (λ q other. refl) f.ascending

-- where nothing may be changed, nothing is
pub all_put_back : (t u : Ancestry) → IsForest t → Extends t [] u → u ≡ t
all_put_back t u forest f = same_links u t f.ascending forest.ascending (λ q. f.others q refl)

-- a node that was not known is taken out
pub put_back_unknown : (t u u' : Ancestry) (n : Node) (nodes : List Node) → Extends t (n ∷ nodes) u
    → past_of (known_at t n) ≡ Unknown
    → ((q : Node) → known_at u' q ≡ cond (is_eq (node_cmp n q)) None (known_at u q)) → IsStrictlySortedBy node_cmp (keys_of u')
    → Extends t nodes u'
put_back_unknown t u u' n nodes f h made ascending =
    put_back_one t u u' n nodes f
    (made n ∙ ap (λ b. cond b None (known_at u n)) (ties_same n n ∙ same_itself n) ∙ sym (past_unknown (known_at t n) h))
    (λ q other. made q ∙ ap (λ b. cond b None (known_at u q)) (ties_same n q ∙ same_back q n other))
    ascending

-- a node that had no parent loses the one that it got
pub put_back_root : (t u u' : Ancestry) (n : Node) (nodes : List Node) → Extends t (n ∷ nodes) u → past_of (known_at t n) ≡ Root
    → ((q : Node) → known_at u' q ≡ cond (same_node n q) (option_map (λ parent. None) (known_at u q)) (known_at u q))
    → IsStrictlySortedBy node_cmp (keys_of u') → Extends t nodes u'
put_back_root t u u' n nodes f h made ascending =
    let was = past_root (known_at t n) h in
    put_back_one t u u' n nodes f
    (made n ∙ ap (λ b. cond b (option_map (λ parent. None) (known_at u n)) (known_at u n)) (same_itself n)
    ∙ of_known (known_at u n) (f.kept n (ap is_some was)) ∙ sym was)
    (λ q other. made q ∙ ap (λ b. cond b (option_map (λ parent. None) (known_at u q)) (known_at u q)) (same_back q n other))
    ascending
  where
    of_known : (o : Option (Option Node)) → is_some o ≡ true → option_map {U = Option Node} (λ parent. None) o ≡ Some None
    of_known None e = absurd (cc)
    of_known (Some v) e = refl

-- a node whose link is emptied is a root
pub emptied : (t u : Ancestry) (n : Node) (p : Option Node) → known_at t n ≡ Some p
    → ((q : Node) → known_at u q ≡ cond (is_eq (node_cmp n q)) (Some None) (known_at t q))
    → (q : Node) → known_at u q ≡ cond (same_node n q) (option_map (λ parent. None) (known_at t q)) (known_at t q)
emptied t u n p h f q =
    ⊎_elim
    (λ yes. f q ∙ ap (λ b. cond b (Some None) (known_at t q)) (ties_same n q ∙ yes)
    ∙ ap (option_map (λ parent. None)) (sym (ap (known_at t) (sym (same_true n q yes)) ∙ h))
    ∙ sym (ap (λ b. cond b (option_map (λ parent. None) (known_at t q)) (known_at t q)) yes))
    (λ other. f q ∙ ap (λ b. cond b (Some None) (known_at t q)) (ties_same n q ∙ other)
    ∙ sym (ap (λ b. cond b (option_map (λ parent. None) (known_at t q)) (known_at t q)) other))
    (cases_Bool (same_node n q))

-- and an unknown node has no link that could be
pub not_emptied : (t : Ancestry) (n : Node) → known_at t n ≡ None
    → (q : Node) → known_at t q ≡ cond (same_node n q) (option_map (λ parent. None) (known_at t q)) (known_at t q)
not_emptied t n h q =
    ⊎_elim
    (λ yes. let none = ap (known_at t) (sym (same_true n q yes)) ∙ h in
    none ∙ ap (option_map (λ parent. None)) (sym none)
    ∙ sym (ap (λ b. cond b (option_map (λ parent. None) (known_at t q)) (known_at t q)) yes))
    (λ other. sym (ap (λ b. cond b (option_map (λ parent. None) (known_at t q)) (known_at t q)) other))
    (cases_Bool (same_node n q))

-- one more node of a list is put back
pub put_back_more : (t : Ancestry) (nodes : List Node) (pasts : List Past) (i : ℕ) (n : Node) (past : Past) (u u' : Ancestry)
    → pasts ≡ map (λ m. past_of (known_at t m)) nodes
    → i < length nodes → n ≡ get_or nodes i n → past ≡ get_or pasts i past → Extends t (drop i nodes) u
    → ((rest : List Node) → past_of (known_at t n) ≡ past → Extends t (n ∷ rest) u → Extends t rest u')
    → Extends t (drop (i + 1) nodes) u'
put_back_more t nodes pasts i n past u u' all l here was f one =
    let of_all : get_or pasts i past ≡ past_of (known_at t (get_or nodes i n)) =
    ap (λ ps. get_or ps i past) all ∙ get_or-map (λ m. past_of (known_at t m)) nodes i n past l in
    one (drop (i + 1) nodes) (ap (λ m. past_of (known_at t m)) here ∙ sym of_all ∙ sym was)
    (subst (λ ns. Extends t ns u) (at_drop_more (λ ns. ns) nodes i n l ∙ ap (λ m. m ∷ drop (i + 1) nodes) (sym here)) f)

-- all nodes of the list are put back
pub put_back_done : (t : Ancestry) (nodes : List Node) (pasts : List Past) (i : ℕ) (u : Ancestry) → IsForest t
    → pasts ≡ map (λ m. past_of (known_at t m)) nodes
    → i ≡ min (length nodes) (length pasts) → Extends t (drop i nodes) u → u ≡ t
put_back_done t nodes pasts i u forest all e f =
    let same : length pasts ≡ length nodes = ap length all ∙ length-map nodes (λ m. past_of (known_at t m)) in
    let far : length nodes ≤ i = omega arith in
    all_put_back t u forest (subst (λ ns. Extends t ns u) (drop_of_length-le nodes far) f)

-- each node of a list of known nodes is known
pub known_each : (t : Ancestry) (nodes : List Node) → All (λ n. knows t n ≡ true) nodes → (q : Node) → has_node nodes q ≡ true
    → knows t q ≡ true
known_each t [] all q h = absurd (false≢true h)
known_each t (n ∷ nodes) all q h =
    has_cases q n nodes h
    (λ e. subst (λ m. knows t m ≡ true) (sym e) (All-head (λ m. knows t m ≡ true) n nodes all))
    (λ g. known_each t nodes (All-tail (λ m. knows t m ≡ true) n nodes all) q g)
