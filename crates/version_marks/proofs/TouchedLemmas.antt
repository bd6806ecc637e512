-- The nodes that see a mark where the changed nodes are marked.
use Rattle.std.proofs.Common.{◌≡◌, Bool, true, false, cond, not, ◌||◌, ◌&&◌, List, [], ◌∷◌, Some, None, is_some}
use Rattle.std.proofs.Common.{Result, Ok, Err, refl, ap, ◌∙◌}
use Rattle.std.specs.Prelude.{Vec, IfOk, option_map}
use Rattle.version_nodes.specs.Nodes.{Node}
use Rattle.version_nodes.specs.Trees.{Ancestry, has_node, knows, line}
use Rattle.version_nodes.specs.Statuses.{first_marked}
use Rattle.version_marks.specs.Nearest.{own_mark, nearest_on, nearest_of, row_at, once, meets, is_once}
use Rattle.version_marks.specs.declared.near.NearRow.{NearRow}
use Rattle.version_marks.proofs.RowLemmas.{nodes_of, has_nodes_of}

once_nodes : (rows : List NearRow) → once rows → is_once (nodes_of rows) ≡ true
once_nodes [] o = refl
once_nodes (r ∷ rows) o =
    ap (λ b. not b && is_once (nodes_of rows)) (has_nodes_of rows r.node ∙ ap is_some o.0) ∙ once_nodes rows o.1

-- a line has a changed node exactly where it has a mark
sees_changed : (changed ns : List Node) → is_some (nearest_on changed [] ns) ≡ meets changed ns
sees_changed changed [] = refl
sees_changed changed (n ∷ ns) = first (has_node changed n) (sees_changed changed ns)
  where
    first : (b : Bool) → is_some (nearest_on changed [] ns) ≡ meets changed ns
        → is_some (option_map (own_mark changed) (cond (b || false) (Some n) (first_marked changed [] ns))) ≡ (b || meets changed ns)
    first true again = refl
    first false again = again

seen_changed : (t : Ancestry) (changed : List Node) (v : Node)
    → is_some (nearest_of t changed [] v) ≡ (knows t v && meets changed (line t v))
seen_changed t changed v =
    elim (knows t v) as (λ b. is_some (cond b (nearest_on changed [] (line t v)) None) ≡ (b && meets changed (line t v)))
    [ true ↦ sees_changed changed (line t v) | false ↦ refl ]

module _ {A E : Type 0} (r : Result (Vec Node A) E) (rows : List NearRow) (made : IfOk r (λ nodes. nodes.items ≡ nodes_of rows)) where
  pub touched_once : once rows → IfOk r (λ nodes. is_once nodes.items ≡ true)
  touched_once o = at r made
    where
      at : (r : Result (Vec Node A) E) → IfOk r (λ nodes. nodes.items ≡ nodes_of rows) → IfOk r (λ nodes. is_once nodes.items ≡ true)
      at (Ok nodes) e = ap is_once e ∙ once_nodes rows o
      at (Err x) e = tt

  pub touched_are : (t : Ancestry) (changed : List Node) → ((v : Node) → row_at rows v ≡ nearest_of t changed [] v)
      → IfOk r (λ nodes. (v : Node) → has_node nodes.items v ≡ (knows t v && meets changed (line t v)))
  touched_are t changed are = at r made
    where
      at : (r : Result (Vec Node A) E) → IfOk r (λ nodes. nodes.items ≡ nodes_of rows)
          → IfOk r (λ nodes. (v : Node) → has_node nodes.items v ≡ (knows t v && meets changed (line t v)))
      at (Ok nodes) e = λ v.
          ap (λ (vs : List Node). has_node vs v) e ∙ has_nodes_of rows v ∙ ap is_some (are v) ∙ seen_changed t changed v
      at (Err x) e = tt
