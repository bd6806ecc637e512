-- That a set is found at a node, by the row of its nearest mark, in a content that a desk keeps.
use Rattle.std.proofs.Common.{◌≡◌, ◌==◌, ℕ, Bool, true, false, cond, List, length, Option, Some, None, refl, sym, ap, ◌∙◌}
use Rattle.std.specs.Prelude.{option_map}
use Rattle.std.proofs.lemmas.Option.{none-some, same_Some}
use Rattle.version_nodes.specs.Nodes.{Node}
use Rattle.version_nodes.specs.Trees.{line, knows}
use Rattle.version_nodes.specs.Statuses.{status, status_on, status_from, first_marked, first_kind, kind_at}
use Rattle.version_nodes.specs.declared.statuses.MarkKind.{MarkKind}
use Rattle.version_nodes.specs.declared.statuses.MarkKind.TheVariants.{Found, Fixed}
use Rattle.bug_record.specs.Heads.{is_found}
use Rattle.bug_record.specs.declared.bug.Shared.{Shared}
use Rattle.version_marks.specs.Nearest.{nearest_on, own_mark}
use Rattle.version_marks.specs.declared.near.Near.{Near}
use Rattle.table_content.specs.Content.{Content}
use Rattle.table_content.specs.Kept.{IsKeptContent}
use Rattle.table_content.specs.KindsAtNodes.{kind_here}
use Rattle.table_content.proofs.QuestionLemmas.{nearest_kind}
use Rattle.table_reads.specs.Found.{near_kind, is_found_at, is_found_in, decided}

-- the marks of the fields are those of the key's set
pub found_right : (c : Content) (k : ℕ) (v : Node) (f : Shared) → IsKeptContent c → f.found ≡ c.found k → f.fixed ≡ c.fixed k
    → is_found_at c k v f ≡ is_found (status_on (line c.nodes v) f.found f.fixed f.closed)
unfolding status_on
found_right c k v f kept p q =
    ap (λ (kind : Option MarkKind). is_found (status_from kind (length f.found == 0) (length f.fixed == 0) f.closed))
    ((λ i. kind_here (p i) (q i) (option_map (λ near. near.kind) (c.near k v)) v) ∙ nearest_kind c k v kept
    ∙ (λ i. first (sym p i) (sym q i)))
  where
    first : List Node → List Node → Option MarkKind
    first found fixed = first_kind found fixed (line c.nodes v)

pub found_at_node : (c : Content) (k : ℕ) (v : Node) (f : Shared) → IsKeptContent c → f.found ≡ c.found k → f.fixed ≡ c.fixed k
    → is_found_at c k v f ≡ is_found (status c.nodes f.found f.fixed f.closed v)
unfolding status
found_at_node c k v f kept p q = found_right c k v f kept p q

-- ---- where the nearest mark decides without the set's own marks

seen_kind : (found : List Node) (o : Option Node) → option_map (λ (near : Near). near.kind) (option_map (own_mark found) o) ≡ option_map (kind_at found) o
seen_kind found None = refl
seen_kind found (Some v) = refl

module _ (c : Content) (k : ℕ) (v : Node) (kept : IsKeptContent c) where
  abbrev on_line : Option Near
  on_line = nearest_on (c.found k) (c.fixed k) (line c.nodes v)

  -- a nearest mark is the first on the node's line
  first_seen : (kind : MarkKind) → near_kind c k v ≡ Some kind → first_kind (c.found k) (c.fixed k) (line c.nodes v) ≡ Some kind
  first_seen kind is = cases (knows c.nodes v) refl
    where
      row_is : (b : Bool) → knows c.nodes v ≡ b → near_kind c k v ≡ option_map (λ (n : Near). n.kind) (cond b on_line None)
      row_is b e = ap (option_map (λ (n : Near). n.kind)) (kept.near k v ∙ ap (λ t. cond t on_line None) e)

      cases : (b : Bool) → knows c.nodes v ≡ b → first_kind (c.found k) (c.fixed k) (line c.nodes v) ≡ Some kind
      cases true e = sym (seen_kind (c.found k) (first_marked (c.found k) (c.fixed k) (line c.nodes v))) ∙ sym (row_is true e) ∙ is
      cases false e = absurd (none-some kind (sym (row_is false e) ∙ is))

  by_nearest : (kind : MarkKind) (closed : Bool) → near_kind c k v ≡ Some kind
      → is_found_in c k v closed ≡ is_found (status_from (Some kind) (length (c.found k) == 0) (length (c.fixed k) == 0) closed)
  by_nearest kind closed is =
      ap (λ (seen : Option MarkKind). is_found (status_from seen (length (c.found k) == 0) (length (c.fixed k) == 0) closed))
      (nearest_kind c k v kept ∙ first_seen kind is)

  not_fixed : (found_empty fixed_empty closed : Bool) → false ≡ is_found (status_from (Some Fixed) found_empty fixed_empty closed)
  not_fixed found_empty true true = refl
  not_fixed found_empty false true = refl
  not_fixed found_empty fixed_empty false = refl

  -- what it decides is so
  pub decided_right : (closed found : Bool) → decided (near_kind c k v) closed ≡ Some found → found ≡ is_found_in c k v closed
  decided_right closed found says = cases (near_kind c k v) closed refl says
    where
      cases : (o : Option MarkKind) (closed : Bool) → near_kind c k v ≡ o → decided o closed ≡ Some found → found ≡ is_found_in c k v closed
      cases None closed e h = absurd (none-some found h)
      cases (Some Found) true e h = absurd (none-some found h)
      cases (Some Found) false e h = sym (same_Some _ _ h) ∙ sym (by_nearest Found false e)
      cases (Some Fixed) closed e h =
          sym (same_Some _ _ h) ∙ not_fixed (length (c.found k) == 0) (length (c.fixed k) == 0) closed ∙ sym (by_nearest Fixed closed e)
