-- What a node sees, by its line.
use Rattle.std.proofs.Common.{◌≡◌, Bool, true, false, cond, ◌||◌, ◌&&◌, List, [], ◌∷◌, ◌++◌, Option, Some, None, sym, refl, ap, ◌∙◌, subst}
use Rattle.std.specs.Prelude.{option_map, is_some, is_none}
use Rattle.std.specs.Option.{option_or, option_and_then, option_flatten}
use Rattle.std.proofs.lemmas.Bool.{false≢true}
use Rattle.std.proofs.lemmas.Option.{none-some}
use Rattle.version_nodes.specs.Nodes.{Node}
use Rattle.version_nodes.specs.Trees.{Ancestry, IsForest, IsLine, has_node, knows, known_at, parent_of, line}
use Rattle.version_nodes.specs.Branches.{Extends}
use Rattle.version_nodes.specs.Statuses.{first_marked}
use Rattle.ancestry.proofs.LineLemmas.{line_is, line_up}
use Rattle.version_marks.specs.Nearest.{nearest_on, nearest_of, own_mark, meets}
use Rattle.version_marks.specs.declared.near.Near.{Near}

or_false : (a b : Bool) → (a || b) ≡ false → (a ≡ false) × (b ≡ false)
or_false true b h = absurd (false≢true (sym h))
or_false false b h = (refl, h)

-- ---- the marks of a line

module _ (found fixed : List Node) where
  -- one more node in front
  sees_first : (v : Node) (ns : List Node) → nearest_on found fixed (v ∷ ns)
      ≡ cond (has_node found v || has_node fixed v) (Some (own_mark found v)) (nearest_on found fixed ns)
  sees_first v ns = elim (has_node found v || has_node fixed v) as (λ t. option_map (own_mark found) (cond t (Some v) (first_marked found fixed ns))
      ≡ cond t (Some (own_mark found v)) (nearest_on found fixed ns)) [ true ↦ refl | false ↦ refl ]

  pub longer : (ns more : List Node)
      → nearest_on found fixed (ns ++ more) ≡ option_or (nearest_on found fixed ns) (nearest_on found fixed more)
  longer [] more = refl
  longer (v ∷ ns) more =
      sees_first v (ns ++ more)
      ∙ elim (has_node found v || has_node fixed v) as (λ t. cond t (Some (own_mark found v)) (nearest_on found fixed (ns ++ more))
      ≡ option_or (cond t (Some (own_mark found v)) (nearest_on found fixed ns)) (nearest_on found fixed more))
      [ true ↦ refl | false ↦ longer ns more ]
      ∙ ap (λ o. option_or o (nearest_on found fixed more)) (sym (sees_first v ns))

  pub by_parent : (t : Ancestry) (v : Node) → IsForest t → knows t v ≡ true → nearest_of t found fixed v
      ≡ cond (has_node found v || has_node fixed v) (Some (own_mark found v)) (option_and_then (nearest_of t found fixed) (parent_of t v))
  by_parent t v forest known =
      ap (λ b. cond b (nearest_on found fixed (line t v)) None) known ∙ cases (parent_of t v) refl
    where
      cases : (o : Option Node) → parent_of t v ≡ o → nearest_on found fixed (line t v)
          ≡ cond (has_node found v || has_node fixed v) (Some (own_mark found v)) (option_and_then (nearest_of t found fixed) o)
      cases None e =
          ap (nearest_on found fixed) (sym (line_is t v (v ∷ []) forest (refl, e))) ∙ sees_first v []
      cases (Some p) e =
          ap (nearest_on found fixed) (line_up t v p forest e) ∙ sees_first v (line t p)
          ∙ ap (λ (o : Option Near). cond (has_node found v || has_node fixed v) (Some (own_mark found v)) o)
          (sym (ap (λ b. cond b (nearest_on found fixed (line t p)) None) (forest.parents v p e)))

-- ---- lines after a branch

-- what is in front of a line that goes on
record GoesOn (u : Ancestry) (v : Node) (ns : List Node) : Type 0 where
  pub more : List Node
  pub is : IsLine u v (ns ++ more)

module _ (t u : Ancestry) (nodes : List Node) (new : IsForest u) (ext : Extends t nodes u) where
  parent_stays : (v p : Node) → parent_of t v ≡ Some p → parent_of u v ≡ Some p
  parent_stays v p e =
      ap option_flatten (ext.others v (ap (λ (o : Option Node). has_node nodes v && is_none o) e ∙ none (has_node nodes v))) ∙ e
    where
      none : (a : Bool) → (a && false) ≡ false
      none true = refl
      none false = refl

  goes_on : (v : Node) (ns : List Node) → IsLine t v ns → GoesOn u v ns
  goes_on v [] h = absurd h
  goes_on v (m ∷ []) h = subst (λ (z : Node). GoesOn u v (z ∷ [])) (sym h.0) (root (line u v) (new.lines v))
    where
      root : (xs : List Node) → IsLine u v xs → GoesOn u v (v ∷ [])
      root [] k = absurd k
      root (x ∷ xs) k = record { more = xs; is = subst (λ (z : Node). IsLine u v (z ∷ xs)) (first x xs k) k }
        where
          first : (x : Node) (xs : List Node) → IsLine u v (x ∷ xs) → x ≡ v
          first x [] k = k.0
          first x (y ∷ ys) k = k.0
  goes_on v (m ∷ p ∷ ns) h =
      let rest = goes_on p (p ∷ ns) h.2 in
      record { more = rest.more; is = (h.0, parent_stays v p h.1, rest.is) }

module _ (t u : Ancestry) (nodes found fixed : List Node) (v : Node) (near : Near) (old : IsForest t) (new : IsForest u)
    (ext : Extends t nodes u) where
  pub sees_still : nearest_of t found fixed v ≡ Some near → nearest_of u found fixed v ≡ Some near
  sees_still h = cases (knows t v) refl h
    where
      cases : (b : Bool) → knows t v ≡ b → cond b (nearest_on found fixed (line t v)) None ≡ Some near
          → nearest_of u found fixed v ≡ Some near
      cases true k e =
          let on = goes_on t u nodes new ext v (line t v) (old.lines v) in
          ap (λ b. cond b (nearest_on found fixed (line u v)) None) (ext.kept v k)
          ∙ ap (nearest_on found fixed) (sym (line_is u v (line t v ++ on.more) new on.is))
          ∙ longer found fixed (line t v) on.more
          ∙ ap (λ o. option_or o (nearest_on found fixed on.more)) e
      cases false k e = absurd (none-some near e)

-- ---- lines without a changed node

module _ (t u : Ancestry) (changed : List Node) (same : (w : Node) → has_node changed w ≡ false → known_at u w ≡ known_at t w) where
  same_line : (v : Node) (ns : List Node) → meets changed ns ≡ false → IsLine u v ns → IsLine t v ns
  same_line v [] out h = absurd h
  same_line v (m ∷ []) out h = (
    h.0,
    ap option_flatten (sym (same v (subst (λ (z : Node). has_node changed z ≡ false) h.0 (or_false (has_node changed m) false out).0))) ∙ h.1,
  )
  same_line v (m ∷ p ∷ ns) out h = (
    h.0,
    ap option_flatten (sym (same v (subst (λ (z : Node). has_node changed z ≡ false) h.0 (or_false (has_node changed m) _ out).0))) ∙ h.1,
    same_line p (p ∷ ns) (or_false (has_node changed m) _ out).1 h.2,
  )

  pub sees_same : (found fixed : List Node) (v : Node) → IsForest t → IsForest u → meets changed (line u v) ≡ false
      → nearest_of u found fixed v ≡ nearest_of t found fixed v
  sees_same found fixed v old new out =
      let is = line_is t v (line u v) old (same_line v (line u v) out (new.lines v)) in
      ap (λ (ns : List Node). cond (knows u v) (nearest_on found fixed ns) None) is
      ∙ ap (λ (o : Option (Option Node)). cond (is_some o) (nearest_on found fixed (line t v)) None)
      (same v (itself (line u v) (new.lines v) out))
    where
      itself : (ns : List Node) → IsLine u v ns → meets changed ns ≡ false → has_node changed v ≡ false
      itself [] h o = absurd h
      itself (m ∷ []) h o = subst (λ (z : Node). has_node changed z ≡ false) h.0 (or_false (has_node changed m) _ o).0
      itself (m ∷ p ∷ ns) h o = subst (λ (z : Node). has_node changed z ≡ false) h.0 (or_false (has_node changed m) _ o).0
