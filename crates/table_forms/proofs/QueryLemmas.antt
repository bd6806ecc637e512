-- The answer of a query over one table.
use Rattle.std.proofs.Common.{◌≡◌, ℕ, ℤ, pos, negsuc, true, false, cond, if◌then◌else◌, nat_le, ◌-◌, ◌^◌, filter, map, flat_map, List, [], ◌∷◌, ◌++◌, slice_get, take, unwrap_or, None, refl, sym, ap, subst, ◌∙◌}
use Rattle.std.specs.List.{list_all}
use Rattle.std.specs.List.Sorted.{IsPermutation, IsSorted}
use Rattle.std.proofs.lemmas.List.Sorted.{IsPermutation-map}
use Rattle.sqlite.specs.declared.types.Value.TheVariants.{Null}
use Rattle.sqlite.specs.Order.{Row}
use Rattle.sqlite.specs.Term.{Term, eval_all, holds}
use Rattle.sqlite.specs.Tree.{Trees}
use Rattle.sqlite.specs.Query.{end, matches_as, IsAnswer, IsSureAnswer, page, Output, output, output_cmp}
use Rattle.sqlite.specs.Program.{overlay}
use Rattle.sqlite_value.specs.declared.keys.Key.{Key}
use Rattle.table_forms.specs.Forms.{page_of, query_of, first_of, passes}

overlay_none : (db : Trees) (t : ℕ) → overlay db [] t ≡ db t
overlay_none db t = elim (nat_le (2 ^ 31) t) as (λ b. unwrap_or (if b then slice_get [] (t - 2 ^ 31) else None) (db t) ≡ db t) [ true ↦ refl | false ↦ refl ]

picks : (params : Row) (tests : List Term) (rows : List Row) → flat_map (λ r. if list_all (holds (params ∷ r ∷ [])) tests then (params ∷ r ∷ []) ∷ [] else []) rows ≡ map (λ r. params ∷ r ∷ []) (filter (passes tests params) rows)
picks params tests [] = refl
picks params tests (r ∷ rows) =
    elim (passes tests params r) as (λ b. (if b then (params ∷ r ∷ []) ∷ [] else []) ++ flat_map (λ x. if list_all (holds (params ∷ x ∷ [])) tests then (params ∷ x ∷ []) ∷ [] else []) rows
    ≡ map (λ x. params ∷ x ∷ []) (cond b (r ∷ filter (passes tests params) rows) (filter (passes tests params) rows)))
    [ true ↦ ap (λ xs. (params ∷ r ∷ []) ∷ xs) (picks params tests rows) | false ↦ picks params tests rows ]

-- the rows that pass the tests, in an order that ORDER BY allows
pub record Finds (tree : ℕ) (tests shown : List Term) (order : List (Term × Key)) (db : Trees) (params : Row) (rows : List Row) : Type 0 where
  pub ordered : List Output
  pub same : IsPermutation (map (λ r. output (query_of tree tests shown order) (params ∷ r ∷ [])) (filter (passes tests params) (db tree))) ordered
  pub sorted : IsSorted (output_cmp (query_of tree tests shown order)) ordered
  pub is : rows ≡ map (λ o. o.1) ordered

pub map_map : {A B C : Type 0} (f : A → B) (g : B → C) (xs : List A) → map g (map f xs) ≡ map (λ x. g (f x)) xs
map_map f g [] = refl
map_map f g (x ∷ xs) = ap (λ ys. g (f x) ∷ ys) (map_map f g xs)

-- the page is cut out of them
paged : (most : ℤ) (tree : ℕ) (tests shown : List Term) (order : List (Term × Key)) (db : Trees) (params : Row) (rows : List Row) → IsSureAnswer (page_of most tree tests shown order) (overlay db []) params rows
    → (all : List Row) × Finds tree tests shown order db params all × (rows ≡ page (page_of most tree tests shown order) params all)
paged most tree tests shown order db params rows sure =
    let q = page_of most tree tests shown order in
    let a : IsAnswer q (overlay db []) params rows = sure Null in
    let table = overlay_none db tree in
    let matched : a.staged ≡ map (λ r. params ∷ r ∷ []) (filter (passes tests params) (db tree)) = a.grouped ∙ ap (flat_map (λ r. matches_as Null (overlay db []) tests end (params ∷ r ∷ []))) table ∙ picks params tests (db tree) in
    let kept : a.kept ≡ map (λ r. output q (params ∷ r ∷ [])) (filter (passes tests params) (db tree)) = a.distinct ∙ ap (map (output q)) matched ∙ map_map _ _ _ in
    (map (λ (o : Output). o.1) a.ordered, record { ordered = a.ordered; same = subst (λ k. IsPermutation k a.ordered) kept a.same; sorted = a.sorted; is = refl }, a.shown)

pub finds : (tree : ℕ) (tests shown : List Term) (order : List (Term × Key)) (db : Trees) (params : Row) (rows : List Row) → IsSureAnswer (query_of tree tests shown order) (overlay db []) params rows
    → Finds tree tests shown order db params rows
finds tree tests shown order db params rows sure =
    let p = paged (negsuc 0) tree tests shown order db params rows sure in
    subst (Finds tree tests shown order db params) (sym p.2) p.1

-- the first of them, if there is one
pub record FindsFirst (tree : ℕ) (tests shown : List Term) (order : List (Term × Key)) (db : Trees) (params : Row) (rows : List Row) : Type 0 where
  pub all : List Row
  pub finds : Finds tree tests shown order db params all
  pub is : rows ≡ take 1 all

pub finds_first : (tree : ℕ) (tests shown : List Term) (order : List (Term × Key)) (db : Trees) (params : Row) (rows : List Row) → IsSureAnswer (first_of tree tests shown order) (overlay db []) params rows
    → FindsFirst tree tests shown order db params rows
finds_first tree tests shown order db params rows sure =
    let p = paged (pos 1) tree tests shown order db params rows sure in
    record { all = p.0; finds = p.1; is = p.2 }

-- with no ORDER BY the answer is the rows in some order
pub found : (tree : ℕ) (tests shown : List Term) (order : List (Term × Key)) (db : Trees) (params : Row) (rows : List Row) → Finds tree tests shown order db params rows
    → IsPermutation (map (λ r. eval_all shown (params ∷ r ∷ [])) (filter (passes tests params) (db tree))) rows
found tree tests shown order db params rows it =
    subst (IsPermutation _) (sym it.is) (subst (λ xs. IsPermutation xs (map (λ o. o.1) it.ordered)) (map_map _ _ _) (IsPermutation-map (λ (o : Output). o.1) _ _ it.same))
