-- Lists in an order, gathered into one.
use Rattle.std.proofs.Common.{◌≡◌, true, List, [], ◌∷◌, length, Option, Some, None, sym, refl, ap, ◌∙◌, arith}
use Rattle.std.specs.Prelude.{◌==◌}
use Rattle.std.specs.BTreeSet.{BTreeSet, insert_key}
use Rattle.std.specs.Cmp.{IsTotalOrder, tied_itself}
use Rattle.std.specs.Ordering.{is_lt, match_ordering, ordering_reverse}
use Rattle.std.specs.List.{AllByRecursion}
use Rattle.std.specs.List.Sorted.{IsStrictlySortedBy}
use Rattle.std.specs.declared.cmp.Ordering.{Ordering}
use Rattle.std.specs.declared.cmp.Ordering.TheVariants.{Less, Equal, Greater}
use Rattle.std.proofs.lemmas.Bool.{false≢true, and_parts, eqb-true}
use Rattle.std.specs.Cmp.Lexicographic.{pointwise, pointwise_decides}
use Rattle.version_nodes.specs.Nodes.{Node, node_cmp, same_node}
use Rattle.version_nodes.specs.NodeLaws.{node_cmp_total}
use Rattle.version_nodes.proofs.NodeLemmas.{same_true, same_itself}
use Rattle.bug_record.specs.Ordered.{with_each}
use Rattle.bug_fields.specs.Gathered.{gathered, is_ordered}
use Rattle.bug_fields.specs.Gathered.{with_nodes}

module _ {T : Type 0} {R : T → T → Ordering} (o : IsTotalOrder R) where
  greater : (x z : T) → R x z ≡ Less → R z x ≡ Greater
  greater x z e = o.antisymm z x ∙ ap ordering_reverse e

  -- an item below all that are added stays the first
  first-stays : (xs ys : List T) (x : T) → AllByRecursion (λ y. R x y ≡ Less) xs
      → with_each R (x ∷ ys) xs ≡ x ∷ with_each R ys xs
  first-stays [] ys x h = refl
  first-stays (z ∷ zs) ys x h =
      ap (λ r. with_each R (match_ordering r (z ∷ x ∷ ys) (x ∷ ys) (x ∷ insert_key R ys z)) zs) (greater x z h.0)
      ∙ first-stays zs (insert_key R ys z) x h.1

  -- a list in the order, added to none, and to itself
  pub each-own : (xs : List T) → IsStrictlySortedBy R xs → with_each R [] xs ≡ xs
  unfolding IsStrictlySortedBy
  each-own [] h = refl
  each-own (x ∷ xs) h = first-stays xs [] x h.0 ∙ ap (λ ys. x ∷ ys) (each-own xs h.1)

  pub each-same : (xs : List T) → IsStrictlySortedBy R xs → with_each R xs xs ≡ xs
  unfolding IsStrictlySortedBy
  each-same [] h = refl
  each-same (x ∷ xs) h =
      ap (λ r. with_each R (match_ordering r (x ∷ x ∷ xs) (x ∷ xs) (x ∷ insert_key R xs x)) xs) (tied_itself o x)
      ∙ first-stays xs xs x h.0
      ∙ ap (λ ys. x ∷ ys) (each-same xs h.1)

  after-lower : (k n : T) (xs : List T) → R k n ≡ Less → AllByRecursion (λ y. R n y ≡ Less) xs
      → AllByRecursion (λ y. R k y ≡ Less) xs
  after-lower k n [] e h = tt
  after-lower k n (m ∷ xs) e h = (o.trans k n m e h.0, after-lower k n xs e h.1)

less-so : (r : Ordering) → is_lt r ≡ true → r ≡ Less
less-so Less e = refl
less-so Equal e = absurd (false≢true e)
less-so Greater e = absurd (false≢true e)

-- nodes that are in order by the test are
all-after : (m : Node) (ns : List Node) → is_ordered (Some m) ns ≡ true
    → AllByRecursion (λ n. node_cmp m n ≡ Less) ns × IsStrictlySortedBy node_cmp ns
unfolding IsStrictlySortedBy
all-after m [] h = (tt, tt)
all-after m (n ∷ ns) h =
    let p = and_parts (is_lt (node_cmp m n)) (is_ordered (Some n) ns) h in
    let r = all-after n ns p.1 in
    let l : node_cmp m n ≡ Less = less-so (node_cmp m n) p.0 in
    ((l, after-lower node_cmp_total m n ns l r.0), r)

pub ordered-from : (ns : List Node) → is_ordered None ns ≡ true → IsStrictlySortedBy node_cmp ns
unfolding IsStrictlySortedBy
ordered-from [] h = tt
ordered-from (n ∷ ns) h = all-after n ns h

pub no_nodes-ordered : IsStrictlySortedBy node_cmp []
unfolding IsStrictlySortedBy
no_nodes-ordered = tt

same_decides : (a b : Node) → (same_node a b ≡ true → a ≡ b) × (a ≡ b → same_node a b ≡ true)
same_decides a b = (same_true a b, λ e. ap (same_node a) (sym e) ∙ same_itself a)

-- what a list becomes: where no tree is there yet, the nodes are those of the list
own-list : (list was : List Node) (tree : Option (BTreeSet Node)) → gathered list tree ≡ was → tree ≡ None → list ≡ was
own-list list was tree v n = sym (ap (gathered list) n) ∙ v

no_items : (xs : List Node) → (length xs == 0) ≡ true → xs ≡ []
no_items [] e = refl
no_items (x ∷ xs) e = let none : length (x ∷ xs) ≡ 0 = eqb-true (length (x ∷ xs)) 0 e in absurd (omega arith)

pub same-added : (list was nodes : List Node) (tree : Option (BTreeSet Node)) → gathered list tree ≡ was → tree ≡ None
    → IsStrictlySortedBy node_cmp list → pointwise same_node list nodes ≡ true → gathered list tree ≡ with_nodes was nodes
same-added list was nodes tree v n h e =
    let same : list ≡ nodes = (pointwise_decides same_decides list nodes).0 e in
    ap (gathered list) n
    ∙ sym (each-same node_cmp_total list h)
    ∙ (λ j. with_nodes (own-list list was tree v n j) (same j))

pub first-added : (list was nodes kept : List Node) (tree : Option (BTreeSet Node)) → gathered list tree ≡ was → tree ≡ None
    → (length list == 0) ≡ true → is_ordered None nodes ≡ true → kept ≡ nodes → gathered kept tree ≡ with_nodes was nodes
first-added list was nodes kept tree v n e o k =
    ap (gathered kept) n
    ∙ k
    ∙ sym (each-own node_cmp_total nodes (ordered-from nodes o))
    ∙ ap (λ xs. with_nodes xs nodes) (sym (no_items list e) ∙ own-list list was tree v n)

pub both-added : (list was nodes keys : List Node) (tree : Option (BTreeSet Node)) → gathered list tree ≡ was → tree ≡ None
    → IsStrictlySortedBy node_cmp list → keys ≡ with_nodes (with_nodes [] list) nodes → keys ≡ with_nodes was nodes
both-added list was nodes keys tree v n h k =
    k ∙ ap (λ xs. with_nodes xs nodes) (each-own node_cmp_total list h ∙ own-list list was tree v n)
