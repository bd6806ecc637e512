-- Links of which a tree is made at once: the map of a forest's links is that forest, and links that
-- are seen to one after another in the order of their nodes are a forest.
use Rattle.std.proofs.Common.{◌≡◌, Bool, true, false, cond, List, [], ◌∷◌, Option, Some, None, is_some, Ordering, Less, Equal}
use Rattle.std.proofs.Common.{Greater, All, refl, sym, ap, ◌∙◌, subst, ⊎_elim}
use Rattle.std.proofs.lemmas.Bool.{cases_Bool, false≢true}
use Rattle.std.proofs.lemmas.List.Elements.{All-nil, All-cons, All-head, All-tail}
use Rattle.std.proofs.lemmas.List.Sorted.{All-permutation, IsPermutation-sym}
use Rattle.std.proofs.lemmas.Map.Keys.{sorted_head, sorted_tail}
use Rattle.std.specs.BTreeMap.{BTreeMap, IsFromIterResult}
use Rattle.std.specs.List.{list_any}
use Rattle.std.specs.List.Sorted.{IsPermutation, IsStrictlySortedBy}
use Rattle.std.specs.Map.{keys_of, update, update_all}
use Rattle.std.specs.Option.{IfSome, option_flatten, option_map_or}
use Rattle.std.specs.Ordering.{eq_by_cmp, is_eq, is_lt}
use Rattle.version_nodes.specs.Nodes.{Node, IsNode, same_node, node_cmp}
use Rattle.version_nodes.specs.Trees.{Ancestry, known_at, knows, parent_of, IsForest}
use Rattle.version_nodes.proofs.NodeLemmas.{same_true, same_itself, same_back, ties_same, at_first, past_first}
use Rattle.ancestry.specs.Whole.{HasLine, Stands}
use Rattle.ancestry.proofs.LinkLemmas.{AreAbove, above_more, unknown_below, same_links}
use Rattle.ancestry.proofs.LineLemmas.{line_cons, unknown_has_none, IsForest-from}

pub none_of : {A : Type 0} (o : Option A) → is_some o ≡ false → o ≡ None
none_of None h = refl
none_of (Some x) h = absurd (cc)

-- ---- the links of a forest

-- what is known in a list is known below a lower link
still_known : (e : Node × Option Node) (t es : Ancestry) → AreAbove e.0 (keys_of es) → All (λ f. known_at t f.0 ≡ Some f.1) es
    → All (λ f. known_at (e ∷ t) f.0 ≡ Some f.1) es
still_known e t [] below all = All-nil (λ f. known_at (e ∷ t) f.0 ≡ Some f.1)
still_known e t (f ∷ es) below all =
    All-cons (λ g. known_at (e ∷ t) g.0 ≡ Some g.1) f es
    (past_first f.0 e.0 e.1 t (same_back e.0 f.0 (sym (ties_same e.0 f.0) ∙ ap is_eq below.0))
    ∙ All-head (λ g. known_at t g.0 ≡ Some g.1) f es all)
    (still_known e t es below.1 (All-tail (λ g. known_at t g.0 ≡ Some g.1) f es all))

pub links_known : (t : Ancestry) → IsStrictlySortedBy node_cmp (keys_of t) → All (λ e. known_at t e.0 ≡ Some e.1) t
links_known [] a = All-nil (λ e. known_at [] e.0 ≡ Some e.1)
links_known (e ∷ t) a =
    All-cons (λ f. known_at (e ∷ t) f.0 ≡ Some f.1) e t (at_first e.0 e.1 t)
    (still_known e t t (sorted_head node_cmp e.0 (keys_of t) a) (links_known t (sorted_tail node_cmp e.0 (keys_of t) a)))

-- what holds of the nodes of all links holds of each known node
of_known : (P : Node → Type 0) (es : Ancestry) → All (λ e. P e.0) es → (q : Node) → knows es q ≡ true → P q
of_known P [] all q h = absurd (false≢true h)
of_known P (e ∷ es) all q h =
    ⊎_elim
    (λ yes. subst P (sym (same_true q e.0 yes)) (All-head (λ f. P f.0) e es all))
    (λ other. of_known P es (All-tail (λ f. P f.0) e es all) q (ap is_some (sym (past_first q e.0 e.1 es other)) ∙ h))
    (cases_Bool (same_node q e.0))

-- ---- the map of links

abbrev Known : Type 0
Known = Node → Option (Option Node)

-- what is known after a link more
abbrev with_link : Known → Node × Option Node → Known
with_link f e = update (eq_by_cmp node_cmp) f e.0 (Some e.1)

link_here : (t : Ancestry) (f : Known) (e : Node × Option Node) (q : Node) → known_at t e.0 ≡ Some e.1 → q ≡ e.0
    → with_link f e q ≡ known_at t q
link_here t f e q known is =
    subst (λ m. with_link f e m ≡ known_at t m) (sym is)
    (ap (λ b. cond b (Some e.1) (f e.0)) (ties_same e.0 e.0 ∙ same_itself e.0) ∙ sym known)

link_kept : (t : Ancestry) (f : Known) (e : Node × Option Node) (q : Node) → known_at t e.0 ≡ Some e.1 → f q ≡ known_at t q
    → with_link f e q ≡ known_at t q
link_kept t f e q known h =
    ⊎_elim
    (λ yes. link_here t f e q known (sym (same_true e.0 q yes)))
    (λ other. ap (λ b. cond b (Some e.1) (f q)) (ties_same e.0 q ∙ other) ∙ h)
    (cases_Bool (same_node e.0 q))

-- what is known as in the forest stays so
all_kept : (t xs : Ancestry) (f : Known) (q : Node) → All (λ e. known_at t e.0 ≡ Some e.1) xs → f q ≡ known_at t q
    → update_all (eq_by_cmp node_cmp) f xs q ≡ known_at t q
all_kept t [] f q all h = h
all_kept t (e ∷ xs) f q all h =
    all_kept t xs (with_link f e) q (All-tail (λ g. known_at t g.0 ≡ Some g.1) e xs all)
    (link_kept t f e q (All-head (λ g. known_at t g.0 ≡ Some g.1) e xs all) h)

-- a node that has a link is known as in the forest
all_reached : (t xs : Ancestry) (f : Known) (q : Node) → All (λ e. known_at t e.0 ≡ Some e.1) xs → knows xs q ≡ true
    → update_all (eq_by_cmp node_cmp) f xs q ≡ known_at t q
all_reached t [] f q all h = absurd (false≢true h)
all_reached t (e ∷ xs) f q all h =
    ⊎_elim
    (λ yes. all_kept t xs (with_link f e) q (All-tail (λ g. known_at t g.0 ≡ Some g.1) e xs all)
    (link_here t f e q (All-head (λ g. known_at t g.0 ≡ Some g.1) e xs all) (same_true q e.0 yes)))
    (λ other. all_reached t xs (with_link f e) q (All-tail (λ g. known_at t g.0 ≡ Some g.1) e xs all)
    (ap is_some (sym (past_first q e.0 e.1 xs other)) ∙ h))
    (cases_Bool (same_node q e.0))

known_first : (e : Node × Option Node) (es : Ancestry) (q : Node) → knows es q ≡ true → knows (e ∷ es) q ≡ true
known_first e es q h =
    ⊎_elim
    (λ yes. subst (λ m. knows (e ∷ es) m ≡ true) (sym (same_true q e.0 yes)) (ap is_some (at_first e.0 e.1 es)))
    (λ other. ap is_some (past_first q e.0 e.1 es other) ∙ h)
    (cases_Bool (same_node q e.0))

-- the nodes of links are known
own_known : (es xs : Ancestry) → ((q : Node) → knows es q ≡ true → knows xs q ≡ true) → All (λ e. knows xs e.0 ≡ true) es
own_known [] xs h = All-nil (λ e. knows xs e.0 ≡ true)
own_known (e ∷ es) xs h =
    All-cons (λ f. knows xs f.0 ≡ true) e es (h e.0 (ap is_some (at_first e.0 e.1 es)))
    (own_known es xs (λ q g. h q (known_first e es q g)))

pub gathered : (t xs : Ancestry) (m : BTreeMap Node (Option Node)) → IsStrictlySortedBy node_cmp (keys_of t) → IsPermutation t xs
    → IsFromIterResult node_cmp xs m → m.entries ≡ t
gathered t xs m up same made =
    let all = All-permutation (λ e. known_at t e.0 ≡ Some e.1) t xs same (links_known t up) in
    let each = All-permutation (λ e. knows xs e.0 ≡ true) xs t (IsPermutation-sym t xs same) (own_known xs xs (λ q g. g)) in
    same_links m.entries t made.1 up (λ q. made.0 q
    ∙ ⊎_elim
    (λ yes. all_reached t xs (λ _. None) q all (of_known (λ m. knows xs m ≡ true) t each q yes))
    (λ off. all_kept t xs (λ _. None) q all (sym (none_of (known_at t q) off)))
    (cases_Bool (knows t q)))

-- ---- a node that stands

pub line_up_from : (t : Ancestry) (n p : Node) → parent_of t n ≡ Some p → HasLine t p → HasLine t n
line_up_from t n p e h = (n ∷ h.0, line_cons t n p h.0 e h.1)

pub root_line : (t : Ancestry) (n : Node) → parent_of t n ≡ None → HasLine t n
root_line t n e = (n ∷ [], (refl, e))

pub stands_root : (t : Ancestry) (n : Node) → known_at t n ≡ Some None → IsNode n → Stands t n
stands_root t n link valid = record {
  known = ap is_some link;
  valid = valid;
  parent = λ p h. absurd (cc (ap option_flatten link, h));
  line = root_line t n (ap option_flatten link);
}

pub stands_under : (t : Ancestry) (n p : Node) → known_at t n ≡ Some (Some p) → IsNode n → knows t p ≡ true → HasLine t p → Stands t n
stands_under t n p link valid above line = record {
  known = ap is_some link;
  valid = valid;
  parent = λ q h. let is : q ≡ p = cc (ap option_flatten link, h) in subst (λ m. knows t m ≡ true) (sym is) above;
  line = line_up_from t n p (ap option_flatten link) line;
}

-- the parent is a node that stands
pub stands_before : (t : Ancestry) (o : Option Node) (p : Node) → IfSome o (Stands t) → option_map_or (λ m. same_node m p) o false ≡ true
    → Stands t p
stands_before t None p s h = absurd (false≢true h)
stands_before t (Some b) p s h = subst (Stands t) (same_true b p h) s

-- ---- links that are seen to in the order of their nodes

-- these links are left, and of the nodes before them each stands
pub record Seen (t es : Ancestry) : Type 0 where
  pub ascending : IsStrictlySortedBy node_cmp (keys_of es)
  pub links : All (λ e. known_at t e.0 ≡ Some e.1) es
  pub stand : (n : Node) → knows t n ≡ true → knows es n ≡ false → Stands t n

pub seen_none : (t : Ancestry) → IsStrictlySortedBy node_cmp (keys_of t) → Seen t t
seen_none t up = record { ascending = up; links = links_known t up; stand = λ n k off. absurd (false≢true (sym off ∙ k)) }

pub seen_link : (t es : Ancestry) (e : Node × Option Node) → Seen t (e ∷ es) → known_at t e.0 ≡ Some e.1
seen_link t es e s = All-head (λ f. known_at t f.0 ≡ Some f.1) e es s.links

lower : (r : Ordering) → is_lt r ≡ true → r ≡ Less
lower Less h = refl
lower Equal h = absurd (false≢true h)
lower Greater h = absurd (false≢true h)

pub seen_below : (t es : Ancestry) (e : Node × Option Node) → Seen t (e ∷ es) → (p : Node) → knows t p ≡ true
    → is_lt (node_cmp p e.0) ≡ true → Stands t p
seen_below t es e s p known low =
    let less = lower (node_cmp p e.0) low in
    s.stand p known
    (ap is_some (unknown_below p (e ∷ es)
    (less, above_more p e.0 less (keys_of es) (sorted_head node_cmp e.0 (keys_of es) s.ascending))))

pub seen_more : (t es : Ancestry) (e : Node × Option Node) → Seen t (e ∷ es) → Stands t e.0 → Seen t es
seen_more t es e s here = record {
  ascending = sorted_tail node_cmp e.0 (keys_of es) s.ascending;
  links = All-tail (λ f. known_at t f.0 ≡ Some f.1) e es s.links;
  stand = λ n k off.
      ⊎_elim
      (λ yes. subst (Stands t) (sym (same_true n e.0 yes)) here)
      (λ other. s.stand n k (ap is_some (past_first n e.0 e.1 es other) ∙ off))
      (cases_Bool (same_node n e.0));
}

pub seen_all : (t : Ancestry) → IsStrictlySortedBy node_cmp (keys_of t) → Seen t [] → IsForest t
seen_all t up s =
    IsForest-from t up (λ n k. (s.stand n k refl).valid)
    (λ n p h.
    ⊎_elim
    (λ yes. (s.stand n yes refl).parent p h)
    (λ off. absurd (cc (unknown_has_none t n off, h)))
    (cases_Bool (knows t n)))
    (λ n.
    ⊎_elim
    (λ yes. (s.stand n yes refl).line)
    (λ off. root_line t n (unknown_has_none t n off))
    (cases_Bool (knows t n)))

-- ---- the parents

-- whether one of these is the node
abbrev pub among : List (Option Node) → Node → Bool
among parents n = list_any (λ parent. option_map_or (same_node n) parent false) parents
