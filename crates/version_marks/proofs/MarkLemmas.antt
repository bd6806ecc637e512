-- The map of the marks, and the rows with which the way down begins.
use Rattle.std.proofs.Common.{◌≡◌, ℕ, ◌+◌, ◌<◌, Bool, true, false, cond, ◌||◌, List, [], ◌∷◌, length, drop, get_or}
use Rattle.std.proofs.Common.{Option, Some, None, Less, sym, refl, ap, ◌∙◌}
use Rattle.std.specs.Prelude.{option_map}
use Rattle.std.proofs.lemmas.List.{at_drop_more}
use Rattle.std.proofs.lemmas.Map.Keys.{sorted_head, sorted_tail}
use Rattle.std.specs.BTreeMap.{BTreeMap, get, is_at}
use Rattle.std.specs.List.{AllByRecursion}
use Rattle.std.specs.List.Sorted.{IsStrictlySortedBy}
use Rattle.std.specs.Map.{keys_of, lookup}
use Rattle.std.specs.Ordering.{is_eq}
use Rattle.version_nodes.specs.Nodes.{Node, same_node, node_cmp}
use Rattle.version_nodes.specs.NodeLaws.{same_node_equiv}
use Rattle.version_nodes.specs.Trees.{Ancestry, has_node, knows}
use Rattle.version_nodes.specs.declared.statuses.MarkKind.{MarkKind}
use Rattle.version_nodes.proofs.NodeLemmas.{same_true, ties_same}
use Rattle.version_marks.specs.Nearest.{row_at, once}
use Rattle.version_marks.specs.Walks.{row_of, rows_of_marks}
use Rattle.version_marks.specs.declared.near.Near.{Near}

turned : (a b : Node) → is_at (node_cmp a) b ≡ same_node b a
turned a b = ties_same a b ∙ same_node_equiv.symm a b

-- one more node is given its kind
pub marks_more : (nodes : List Node) (i : ℕ) (n key : Node) (kind : MarkKind) (m m' : BTreeMap Node MarkKind) (to : Node → Option MarkKind)
    → i < length nodes → n ≡ get_or nodes i n → key ≡ n
    → ((q : Node) → get node_cmp m' q ≡ cond (is_at (node_cmp key) q) (Some kind) (get node_cmp m q))
    → ((v : Node) → cond (has_node (drop i nodes) v) (Some kind) (get node_cmp m v) ≡ to v)
    → (v : Node) → cond (has_node (drop (i + 1) nodes) v) (Some kind) (get node_cmp m' v) ≡ to v
marks_more nodes i n key kind m m' to l here is made before v =
    ap (λ o. cond (has_node (drop (i + 1) nodes) v) (Some kind) o)
    (made v ∙ ap (λ b. cond b (Some kind) (get node_cmp m v)) (turned key v ∙ ap (same_node v) is))
    ∙ both (has_node (drop (i + 1) nodes) v) (same_node v n)
    ∙ sym (at_drop_more (λ ns. cond (has_node ns v) (Some kind) (get node_cmp m v)) nodes i n l
    ∙ ap (λ z. cond (same_node v z || has_node (drop (i + 1) nodes) v) (Some kind) (get node_cmp m v)) (sym here))
    ∙ before v
  where
    both : (h s : Bool) → cond h (Some kind) (cond s (Some kind) (get node_cmp m v)) ≡ cond (s || h) (Some kind) (get node_cmp m v)
    both true true = refl
    both true false = refl
    both false true = refl
    both false false = refl

-- ---- the rows of the marks

abbrev own : Node → Option MarkKind → Option Near
own v o = option_map (λ kind. record { mark = v; kind = kind }) o

module _ (t : Ancestry) where
  pub at_marks : (es : List (Node × MarkKind)) (v : Node)
      → row_at (rows_of_marks t es) v ≡ cond (knows t v) (own v (lookup (is_at (node_cmp v)) es)) None
  at_marks [] v = elim (knows t v) as (λ b. None ≡ cond b (own v None) None) [ true ↦ refl | false ↦ refl ]
  at_marks (e ∷ es) v =
      first (at_marks es v) (knows t e.0) refl (same_node e.0 v) refl
      ∙ sym (ap (λ b. cond (knows t v) (own v (cond b (Some e.1) (lookup (is_at (node_cmp v)) es))) None)
      (ties_same v e.0 ∙ same_node_equiv.symm v e.0))
    where
      first : row_at (rows_of_marks t es) v ≡ cond (knows t v) (own v (lookup (is_at (node_cmp v)) es)) None
          → (b : Bool) → knows t e.0 ≡ b → (s : Bool) → same_node e.0 v ≡ s
          → row_at (cond b (row_of e.0 e.0 e.1 ∷ rows_of_marks t es) (rows_of_marks t es)) v
          ≡ cond (knows t v) (own v (cond s (Some e.1) (lookup (is_at (node_cmp v)) es))) None
      first again true k true is =
          ap (λ c. cond c (Some (row_of e.0 e.0 e.1).near) (row_at (rows_of_marks t es) v)) is
          ∙ ap (λ (z : Node). Some (row_of z z e.1).near) (same_true e.0 v is)
          ∙ sym (ap (λ c. cond c (own v (Some e.1)) None) (ap (knows t) (sym (same_true e.0 v is)) ∙ k))
      first again true k false is =
          ap (λ c. cond c (Some (row_of e.0 e.0 e.1).near) (row_at (rows_of_marks t es) v)) is ∙ again
      first again false k true is =
          let off = ap (knows t) (sym (same_true e.0 v is)) ∙ k in
          again ∙ ap (λ c. cond c (own v (lookup (is_at (node_cmp v)) es)) None) off
          ∙ sym (ap (λ c. cond c (own v (Some e.1)) None) off)
      first again false k false is = again

  above_none : (n : Node) (es : List (Node × MarkKind)) → AllByRecursion (λ m. node_cmp n m ≡ Less) (keys_of es)
      → lookup (is_at (node_cmp n)) es ≡ None
  above_none n [] h = refl
  above_none n (e ∷ es) h =
      ap (λ o. cond (is_eq o) (Some e.1) (lookup (is_at (node_cmp n)) es)) h.0 ∙ above_none n es h.1

  pub once_marks : (es : List (Node × MarkKind)) → IsStrictlySortedBy node_cmp (keys_of es) → once (rows_of_marks t es)
  once_marks [] h = tt
  once_marks (e ∷ es) h = first (once_marks es (sorted_tail node_cmp e.0 (keys_of es) h)) (knows t e.0)
    where
      lacks : row_at (rows_of_marks t es) e.0 ≡ None
      lacks =
          at_marks es e.0
          ∙ ap (λ o. cond (knows t e.0) (own e.0 o) None) (above_none e.0 es (sorted_head node_cmp e.0 (keys_of es) h))
          ∙ elim (knows t e.0) as (λ b. cond b (own e.0 None) None ≡ None) [ true ↦ refl | false ↦ refl ]

      first : once (rows_of_marks t es) → (b : Bool) → once (cond b (row_of e.0 e.0 e.1 ∷ rows_of_marks t es) (rows_of_marks t es))
      first again true = (lacks, again)
      first again false = again
