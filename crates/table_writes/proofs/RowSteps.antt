-- The rows of several nodes, node by node.
use Rattle.std.proofs.Common.{◌≡◌, ℕ, ◌+◌, ◌<◌, zero, suc, Bool, true, false, ◌||◌, ◌&&◌, not, List, [], ◌∷◌, ◌++◌, length, take, get_or, Result, Ok, cond, is_some, append_assoc, refl, sym, ap, ◌∙◌, subst, arith}
use Rattle.std.specs.Prelude.{⊤, All}
use Rattle.std.specs.Ordering.{nat_cmp}
use Rattle.std.specs.BTreeMap.{BTreeMap, get}
use Rattle.std.specs.Map.{keys_of}
use Rattle.std.specs.List.Sorted.{IsStrictlySortedBy}
use Rattle.std.specs.List.{AllByRecursion}
use Rattle.std.proofs.lemmas.Bool.{false≢true}
use Rattle.std.proofs.lemmas.List.{take_more}
use Rattle.std.proofs.lemmas.List.Elements.{recursion_from_All, All-from_recursion}
use Rattle.version_nodes.specs.Nodes.{Node, same_node}
use Rattle.version_nodes.specs.Trees.{Ancestry, has_node, knows, line}
use Rattle.version_nodes.proofs.NodeLemmas.{same_true, has_head, has_tail}
use Rattle.sqlite.specs.State.{State}
use Rattle.version_marks.specs.Nearest.{nearest_on, meets, is_once}
use Rattle.version_marks.specs.declared.near.Near.{Near}
use Rattle.base_faults.specs.declared.store_fault.StoreFault.{StoreFault}
use Rattle.table_content.specs.Content.{Content}
use Rattle.table_content.specs.Kept.{IsKeptContent}
use Rattle.table_content.specs.declared.branches.SetNear.{SetNear}
use Rattle.table_schema.specs.Steps.{Reads}
use Rattle.table_schema.proofs.StepLemmas.{acts_then}
use Rattle.table_nodes.specs.Missing.{AreRowsOn, set_near, new_rows}
use Rattle.table_nodes.proofs.RowLemmas.{rows_more}
use Rattle.table_writes.specs.Steps.{AddsRows}

-- ---- the nodes

both : (a b : Bool) → (a && b) ≡ true → (a ≡ true) × (b ≡ true)
both true b h = (refl, h)
both false b h = absurd (false≢true h)

off : (a : Bool) → not a ≡ true → a ≡ false
off true h = absurd (false≢true h)
off false h = refl

has_at : (ns : List Node) (i : ℕ) (d : Node) → i < length ns → has_node ns (get_or ns i d) ≡ true
has_at [] i d l = absurd (omega (arith, l))
has_at (n ∷ ns) zero d l = has_head n ns
has_at (n ∷ ns) (suc i) d l = has_tail (get_or ns i d) n ns (has_at ns i d (omega (arith, l)))

-- a node that stands once is not among those before it
not_before : (ns : List Node) (i : ℕ) (d : Node) → is_once ns ≡ true → i < length ns → has_node (take i ns) (get_or ns i d) ≡ false
not_before [] i d o l = absurd (omega (arith, l))
not_before (n ∷ ns) zero d o l = refl
not_before (n ∷ ns) (suc i) d o l =
    let two = both (not (has_node ns n)) (is_once ns) o in
    ap (λ b. b || has_node (take i ns) (get_or ns i d)) (apart (off (has_node ns n) two.0) (same_node (get_or ns i d) n) refl)
    ∙ not_before ns i d two.1 (omega (arith, l))
  where
    apart : has_node ns n ≡ false → (s : Bool) → same_node (get_or ns i d) n ≡ s → s ≡ false
    apart out false e = refl
    apart out true e =
        absurd (false≢true (sym out ∙ ap (has_node ns) (sym (same_true (get_or ns i d) n e)) ∙ has_at ns i d (omega (arith, l))))

known_at_place : (u : Ancestry) (ns : List Node) (i : ℕ) (d : Node) → AllByRecursion (λ n. knows u n ≡ true) ns → i < length ns → knows u (get_or ns i d) ≡ true
known_at_place u [] i d all l = absurd (omega (arith, l))
known_at_place u (n ∷ ns) zero d all l = all.0
known_at_place u (n ∷ ns) (suc i) d all l = known_at_place u ns i d all.1 (omega (arith, l))

pub all_known : (u : Ancestry) (changed ns : List Node) → ((v : Node) → has_node ns v ≡ (knows u v && meets changed (line u v)))
    → All (λ n. knows u n ≡ true) ns
all_known u changed ns are = All-from_recursion (λ n. knows u n ≡ true) ns (each ns (λ v h. (both (knows u v) _ (sym (are v) ∙ h)).0))
  where
    each : (ns : List Node) → ((v : Node) → has_node ns v ≡ true → knows u v ≡ true) → AllByRecursion (λ n. knows u n ≡ true) ns
    each [] all = tt
    each (n ∷ ns) all = (all n (has_head n ns), each ns (λ v h. all v (has_tail v n ns h)))

-- ---- their rows

module _ (c : Content) (u : Ancestry) (ns : List Node) (i : ℕ) (v : Node) (rows rows' : List SetNear) where
  pub one_node_more : is_once ns ≡ true → All (λ n. knows u n ≡ true) ns → i < length ns → v ≡ get_or ns i v
      → (IsKeptContent c → AreRowsOn c u (take i ns) rows) → AddsRows c u v rows rows'
      → IsKeptContent c → AreRowsOn c u (take (i + 1) ns) rows'
  one_node_more once known l is before adds kept =
      subst (λ (xs : List Node). AreRowsOn c u xs rows') (sym (take_more ns i v l ∙ ap (λ x. take i ns ++ x ∷ []) (sym is)))
      (subst (AreRowsOn c u (take i ns ++ v ∷ [])) (sym adds.added)
      (rows_more c u (take i ns) rows v adds.first kept
      (ap (knows u) is ∙ known_at_place u ns i v (recursion_from_All (λ n. knows u n ≡ true) ns known) l)
      (ap (has_node (take i ns)) is ∙ not_before ns i v once l)
      adds.sorted adds.are (before kept)))

-- one more mark of the first ones, and those that are left
pub one_mark_more : (c : Content) (v : Node) (first rest : List (ℕ × Near)) (key : ℕ) (near : Near) (rows rows' all : List SetNear)
    → first ≡ (key, near) ∷ rest → rows ++ new_rows c v first ≡ all → rows' ≡ rows ++ new_rows c v ((key, near) ∷ [])
    → rows' ++ new_rows c v rest ≡ all
one_mark_more c v first rest key near rows rows' all is before made =
    ap (λ xs. xs ++ new_rows c v rest) made
    ∙ append_assoc rows (new_rows c v ((key, near) ∷ [])) (new_rows c v rest)
    ∙ ap (λ xs. rows ++ xs) (elim (is_some (c.near key v))
    as (λ b. cond b [] (set_near key v near ∷ []) ++ new_rows c v rest ≡ cond b (new_rows c v rest) (set_near key v near ∷ new_rows c v rest))
    [ true ↦ refl | false ↦ refl ])
    ∙ sym (ap (λ es. rows ++ new_rows c v es) is) ∙ before

-- the first marks of a node's line are read, and then its rows
module _ (u : Ancestry) (v : Node) (first : BTreeMap ℕ Near) (rows rows' : List SetNear) (old mid new : State) (r : Result (Unit {0}) StoreFault) where
  pub rows_added : IsStrictlySortedBy nat_cmp (keys_of first.entries)
      → Reads (λ c m. (k : ℕ) → get nat_cmp m k ≡ nearest_on (c.found k) (c.fixed k) (line u v)) old mid (Ok first)
      → Reads (λ c _. rows' ≡ rows ++ new_rows c v first.entries) mid new r → Reads (λ c _. AddsRows c u v rows rows') old new r
  rows_added sorted one two =
      acts_then old mid new first (λ _. ⊤) (λ _. ⊤) (λ _. ⊤)
      (λ c d m. (d ≡ c) × ((k : ℕ) → get nat_cmp m k ≡ nearest_on (c.found k) (c.fixed k) (line u v)))
      (λ d e _. (e ≡ d) × (rows' ≡ rows ++ new_rows d v first.entries)) (λ c e _. (e ≡ c) × AddsRows c u v rows rows') r
      (λ c _. tt) (λ c d p _. tt)
      (λ c d e _ p q. (
        q.0 ∙ p.0,
        record {
          first = first.entries;
          sorted = sorted;
          are = p.1;
          added = subst (λ (x : Content). rows' ≡ rows ++ new_rows x v first.entries) p.0 q.1;
        },
      )) one two
