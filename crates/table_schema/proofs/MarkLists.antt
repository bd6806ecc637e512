-- The rows of marks give nodes to keys, as found and as fixed.
-- Nothing here speaks of a statement.
use Rattle.table_schema.proofs.Imports.{◌≡◌, ℕ, Bool, true, false, ◌&&◌, ◌||◌, ◌==◌, List, [], ◌∷◌, ◌++◌, refl, sym, ap, ◌∙◌, IsStrictlySortedBy, eqb-true, and_parts, same_node_equiv, Node, same_node, node_cmp, has_node, MarkKind, Found, Fixed, has-with_node, sorted-with_node, same-sorted_nodes, kind_number, MarkRow, with_nodes}
use Rattle.bug_record.specs.Marks.{with_node}
use Rattle.table_schema.proofs.OwnerLists.{OwnerRows}

pub with_last : (ns vs : List Node) (v : Node) → with_nodes ns (vs ++ v ∷ []) ≡ with_node (with_nodes ns vs) v
with_last ns [] v = refl
with_last ns (w ∷ vs) v = with_last (with_node ns w) vs v

or_false : (b : Bool) → (b || false) ≡ b
or_false true = refl
or_false false = refl

in_nodes : (v : Node) (ns vs : List Node) → has_node (with_nodes ns vs) v ≡ (has_node vs v || has_node ns v)
in_nodes v ns [] = refl
in_nodes v ns (w ∷ vs) = in_nodes v (with_node ns w) vs ∙ ap (λ b. has_node vs v || b) (has-with_node ns w v) ∙ turned (has_node vs v) (has_node ns v) (same_node v w)
  where
    turned : (a b c : Bool) → (a || (b || c)) ≡ ((c || a) || b)
    turned true b true = refl
    turned true b false = refl
    turned false true true = refl
    turned false true false = refl
    turned false false true = refl
    turned false false false = refl

-- nodes that are put in one by one are those of the list
pub has_nodes : (vs : List Node) (v : Node) → has_node (with_nodes [] vs) v ≡ has_node vs v
has_nodes vs v = in_nodes v [] vs ∙ or_false _

sorted : (ns vs : List Node) → IsStrictlySortedBy node_cmp ns → IsStrictlySortedBy node_cmp (with_nodes ns vs)
sorted ns [] h = h
sorted ns (v ∷ vs) h = sorted (with_node ns v) vs (sorted-with_node ns v h)

sorted_none : IsStrictlySortedBy node_cmp []
unfolding IsStrictlySortedBy
sorted_none = tt

-- the same nodes are put in, in whatever order
pub same_nodes : (vs ws : List Node) → ((v : Node) → has_node vs v ≡ has_node ws v) → with_nodes [] vs ≡ with_nodes [] ws
same_nodes vs ws same = same-sorted_nodes (with_nodes [] vs) (with_nodes [] ws) (sorted [] vs sorted_none) (sorted [] ws sorted_none)
    (λ v. has_nodes vs v ∙ same v ∙ sym (has_nodes ws v))

-- ---- as items of owners

abbrev pub one_kind : ℕ × MarkKind → ℕ × MarkKind → Bool
one_kind a b = (a.0 == b.0) && (kind_number a.1 == kind_number b.1)

kind_is : (a b : MarkKind) → (kind_number a == kind_number b) ≡ true → a ≡ b
kind_is Found Found h = refl
kind_is Found Fixed h = absurd cc
kind_is Fixed Found h = absurd cc
kind_is Fixed Fixed h = refl

pub one_kind_is : (a b : ℕ × MarkKind) → one_kind a b ≡ true → a ≡ b
one_kind_is a b h =
    let parts = and_parts (a.0 == b.0) (kind_number a.1 == kind_number b.1) h in
    let key = eqb-true a.0 b.0 parts.0 in
    let kind = kind_is a.1 b.1 parts.1 in
    λ i. (key i, kind i)

pub first_node : (i : Node) (is : List Node) (j : Node) → has_node (i ∷ is) j ≡ (same_node i j || has_node is j)
first_node i is j = ap (λ b. b || has_node is j) (same_node_equiv.symm j i)

abbrev pub mark_rows : OwnerRows MarkRow (ℕ × MarkKind) Node
mark_rows = record {
  owner = λ x. (x.key, x.kind);
  item = λ x. x.node;
  one_owner = one_kind;
  owner_is = one_kind_is;
  one_item = same_node;
  all = with_nodes [];
  add = with_node;
  has = has_node;
  none = refl;
  empty = λ i. refl;
  last = with_last [];
  first = first_node;
  there = has_nodes;
}
