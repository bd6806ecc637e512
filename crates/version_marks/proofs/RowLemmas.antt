-- Lists of rows: one after another, and those of a node's children.
use Rattle.std.proofs.Common.{◌≡◌, Bool, true, false, cond, not, ◌||◌, ◌&&◌, List, [], ◌∷◌, ◌++◌, map, Option, Some, None, is_some}
use Rattle.std.proofs.Common.{Less, sym, refl, ap, ◌∙◌, ⊎_elim}
use Rattle.std.proofs.lemmas.Bool.{cases_Bool, false≢true}
use Rattle.std.proofs.lemmas.Option.{none-some}
use Rattle.std.proofs.lemmas.Map.Keys.{sorted_head, sorted_tail}
use Rattle.std.specs.List.{AllByRecursion, IsDistinct}
use Rattle.std.specs.List.Sorted.{IsStrictlySortedBy}
use Rattle.std.specs.Option.{option_or}
use Rattle.std.specs.Ordering.{is_eq, eq_by_cmp}
use Rattle.version_nodes.specs.Nodes.{Node, same_node, node_cmp}
use Rattle.version_nodes.specs.NodeLaws.{same_node_equiv, node_ties}
use Rattle.version_nodes.specs.Trees.{has_node}
use Rattle.version_nodes.proofs.NodeLemmas.{same_true, same_itself, ties_same}
use Rattle.ancestry.proofs.WholeLemmas.{none_of}
use Rattle.version_marks.specs.Nearest.{row_at, once}
use Rattle.version_marks.specs.Walks.{row_of, rows_below}
use Rattle.version_marks.specs.declared.near.Near.{Near}
use Rattle.version_marks.specs.declared.near.NearRow.{NearRow}

-- whether a node has a row
abbrev pub has_row : List NearRow → Node → Bool
has_row rows v = is_some (row_at rows v)

pub both_true : (a b : Bool) → (a && b) ≡ true → (a ≡ true) × (b ≡ true)
both_true true b h = (refl, h)
both_true false b h = absurd (false≢true h)

-- ---- one list of rows after another

pub row_append : (xs ys : List NearRow) (v : Node) → row_at (xs ++ ys) v ≡ option_or (row_at xs v) (row_at ys v)
row_append [] ys v = refl
row_append (x ∷ xs) ys v =
    elim (same_node x.node v) as (λ b. cond b (Some x.near) (row_at (xs ++ ys) v) ≡ option_or (cond b (Some x.near) (row_at xs v)) (row_at ys v))
    [ true ↦ refl | false ↦ row_append xs ys v ]

has_append : (xs ys : List NearRow) (v : Node) → has_row (xs ++ ys) v ≡ (has_row xs v || has_row ys v)
has_append xs ys v = ap is_some (row_append xs ys v) ∙ or (row_at xs v)
  where
    or : (o : Option Near) → is_some (option_or o (row_at ys v)) ≡ (is_some o || has_row ys v)
    or None = refl
    or (Some x) = refl

pub has_front : (xs ys : List NearRow) (v : Node) → has_row xs v ≡ true → has_row (xs ++ ys) v ≡ true
has_front xs ys v h = has_append xs ys v ∙ ap (λ b. b || has_row ys v) h

pub has_back : (xs ys : List NearRow) (v : Node) → has_row ys v ≡ true → has_row (xs ++ ys) v ≡ true
has_back xs ys v h = has_append xs ys v ∙ ap (λ b. has_row xs v || b) h ∙ last (has_row xs v)
  where
    last : (a : Bool) → (a || true) ≡ true
    last true = refl
    last false = refl

pub has_either : {P : Type 0} (xs ys : List NearRow) (v : Node) → has_row (xs ++ ys) v ≡ true → (has_row xs v ≡ true → P)
    → (has_row ys v ≡ true → P) → P
has_either xs ys v h f g =
    ⊎_elim f (λ no. g (sym (has_append xs ys v ∙ ap (λ b. b || has_row ys v) no) ∙ h)) (cases_Bool (has_row xs v))

-- the row of a node alone
pub has_own : (r : NearRow) → has_row (r ∷ []) r.node ≡ true
has_own r = ap (λ b. is_some (cond b (Some r.near) None)) (same_itself r.node)

pub is_own : (r : NearRow) (v : Node) → has_row (r ∷ []) v ≡ true → v ≡ r.node
is_own r v h =
    ⊎_elim (λ same. sym (same_true r.node v same))
    (λ no. absurd (false≢true (sym (ap (λ b. is_some (cond b (Some r.near) None)) no) ∙ h)))
    (cases_Bool (same_node r.node v))

tail_lacks : (n : Near) (o : Option Near) (b : Bool) → is_some (cond b (Some n) o) ≡ false → is_some o ≡ false
tail_lacks n o true h = absurd (false≢true (sym h))
tail_lacks n o false h = h

pub once_append : (xs ys : List NearRow) → once xs → once ys → ((v : Node) → has_row ys v ≡ true → has_row xs v ≡ false) → once (xs ++ ys)
once_append [] ys a b h = b
once_append (x ∷ xs) ys a b h = (
  row_append xs ys x.node ∙ ap (λ o. option_or o (row_at ys x.node)) a.0
      ∙ none_of (row_at ys x.node)
      (⊎_elim
      (λ there. absurd (false≢true (sym (h x.node there) ∙ ap (λ b. is_some (cond b (Some x.near) (row_at xs x.node))) (same_itself x.node))))
      (λ no. no) (cases_Bool (has_row ys x.node))),
  once_append xs ys a.1 b (λ v there. tail_lacks x.near (row_at xs v) (same_node x.node v) (h v there)),
)

-- ---- a row among others

module _ (r : NearRow) (rest : List NearRow) where
  pub own_row : (front : List NearRow) → once (front ++ r ∷ rest) → row_at (front ++ r ∷ rest) r.node ≡ Some r.near
  own_row [] o = ap (λ b. cond b (Some r.near) (row_at rest r.node)) (same_itself r.node)
  own_row (f ∷ front) o =
      ⊎_elim
      (λ same. absurd (none-some r.near (sym o.0 ∙ ap (row_at (front ++ r ∷ rest)) (same_true f.node r.node same) ∙ own_row front o.1)))
      (λ no. ap (λ b. cond b (Some f.near) (row_at (front ++ r ∷ rest) r.node)) no ∙ own_row front o.1)
      (cases_Bool (same_node f.node r.node))

  pub not_in_front : (front : List NearRow) → once (front ++ r ∷ rest) → has_row front r.node ≡ false
  not_in_front [] o = refl
  not_in_front (f ∷ front) o =
      ⊎_elim
      (λ same. absurd (none-some r.near (sym o.0 ∙ ap (row_at (front ++ r ∷ rest)) (same_true f.node r.node same) ∙ own_row front o.1)))
      (λ no. ap (λ b. is_some (cond b (Some f.near) (row_at front r.node))) no ∙ not_in_front front o.1)
      (cases_Bool (same_node f.node r.node))

-- ---- the nodes of rows

abbrev pub nodes_of : List NearRow → List Node
nodes_of rows = map (λ row. row.node) rows

pub has_nodes_of : (rows : List NearRow) (v : Node) → has_node (nodes_of rows) v ≡ has_row rows v
has_nodes_of [] v = refl
has_nodes_of (r ∷ rows) v =
    ap (λ b. b || has_node (nodes_of rows) v) (same_node_equiv.symm v r.node)
    ∙ elim (same_node r.node v) as (λ b. (b || has_node (nodes_of rows) v) ≡ is_some (cond b (Some r.near) (row_at rows v)))
    [ true ↦ refl | false ↦ has_nodes_of rows v ]

none_same : (rows : List NearRow) (n : Node) → has_row rows n ≡ false → AllByRecursion (λ m. eq_by_cmp node_cmp n m ≡ false) (nodes_of rows)
none_same [] n h = tt
none_same (r ∷ rows) n h = (
  sym (node_ties n r.node) ∙ same_node_equiv.symm n r.node ∙ apart (same_node r.node n) h,
  none_same rows n (tail_lacks r.near (row_at rows n) (same_node r.node n) h),
)
  where
    apart : (b : Bool) → is_some (cond b (Some r.near) (row_at rows n)) ≡ false → b ≡ false
    apart true h = absurd (false≢true (sym h))
    apart false h = refl

pub distinct_nodes : (rows : List NearRow) → once rows → IsDistinct (eq_by_cmp node_cmp) (nodes_of rows)
unfolding IsDistinct
distinct_nodes [] o = tt
distinct_nodes (r ∷ rows) o = (none_same rows r.node (ap is_some o.0), distinct_nodes rows o.1)

-- ---- the rows of nodes that are not marked

above_lacks : (c : Node) (cs : List Node) → AllByRecursion (λ m. node_cmp c m ≡ Less) cs → has_node cs c ≡ false
above_lacks c [] h = refl
above_lacks c (m ∷ cs) h = ap (λ b. b || has_node cs c) (sym (ties_same c m) ∙ ap is_eq h.0) ∙ above_lacks c cs h.1

module _ (marked : Node → Bool) (near : Near) where
  pub at_below : (cs : List Node) (v : Node) → row_at (rows_below marked near cs) v ≡ cond (has_node cs v && not (marked v)) (Some near) None
  at_below [] v = refl
  at_below (c ∷ cs) v =
      ⊎_elim
      (λ m. ap (λ b. row_at (cond b (rows_below marked near cs) (row_of c near.mark near.kind ∷ rows_below marked near cs)) v) m
      ∙ at_below cs v ∙ at_marked m (same_node v c) refl)
      (λ off. ap (λ b. row_at (cond b (rows_below marked near cs) (row_of c near.mark near.kind ∷ rows_below marked near cs)) v) off
      ∙ ap (λ b. cond b (Some near) (row_at (rows_below marked near cs) v)) (same_node_equiv.symm c v)
      ∙ ap (λ o. cond (same_node v c) (Some near) o) (at_below cs v) ∙ at_other off (same_node v c) refl)
      (cases_Bool (marked c))
    where
      at_marked : marked c ≡ true → (b : Bool) → same_node v c ≡ b
          → cond (has_node cs v && not (marked v)) (Some near) None ≡ cond ((b || has_node cs v) && not (marked v)) (Some near) None
      at_marked m true e =
          ap (λ d. cond (has_node cs v && not d) (Some near) None) (ap marked (same_true v c e) ∙ m) ∙ none (has_node cs v)
          ∙ sym (ap (λ d. cond (not d) (Some near) None) (ap marked (same_true v c e) ∙ m))
        where
          none : (b : Bool) → cond (b && false) (Some near) None ≡ None
          none true = refl
          none false = refl
      at_marked m false e = refl

      at_other : marked c ≡ false → (b : Bool) → same_node v c ≡ b
          → cond b (Some near) (cond (has_node cs v && not (marked v)) (Some near) None)
          ≡ cond ((b || has_node cs v) && not (marked v)) (Some near) None
      at_other off true e = sym (ap (λ d. cond (not d) (Some near) None) (ap marked (same_true v c e) ∙ off))
      at_other off false e = refl

  pub once_below : (cs : List Node) → IsStrictlySortedBy node_cmp cs → once (rows_below marked near cs)
  once_below [] h = tt
  once_below (c ∷ cs) h = at_first (once_below cs (sorted_tail node_cmp c cs h)) (marked c)
    where
      lacks : row_at (rows_below marked near cs) c ≡ None
      lacks =
          at_below cs c
          ∙ ap (λ b. cond (b && not (marked c)) (Some near) None) (above_lacks c cs (sorted_head node_cmp c cs h))

      at_first : once (rows_below marked near cs) → (b : Bool)
          → once (cond b (rows_below marked near cs) (row_of c near.mark near.kind ∷ rows_below marked near cs))
      at_first o true = o
      at_first o false = (lacks, o)
