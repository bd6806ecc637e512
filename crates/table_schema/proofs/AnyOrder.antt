-- Typed rows of an answer, in any order.
-- Nothing here speaks of a statement.
use Rattle.table_schema.proofs.Imports.{◌≡◌, List, [], ◌∷◌, map, Option, Some, None, arith, refl, sym, ap, subst, ◌∙◌, AllByRecursion, IsPermutation, option_map_or, All-from_recursion, recursion_from_All, IsPermutation-map, All-permutation, length_permutation, one_permutation, Row}
use Rattle.table_schema.proofs.ContentLemmas.{read_back}

module _ {T : Type 0} (cells : T → Row) (back : Row → T) (same : (x : T) → back (cells x) ≡ x) where
  rows_are : (xs : List T) → AllByRecursion (λ r. r ≡ cells (back r)) (map cells xs)
  rows_are [] = tt
  rows_are (x ∷ xs) = (ap cells (sym (same x)), rows_are xs)

  rebuilt : (rows : List Row) → AllByRecursion (λ r. r ≡ cells (back r)) rows → rows ≡ map cells (map back rows)
  rebuilt [] h = refl
  rebuilt (r ∷ rows) h = ap (λ rs. r ∷ rs) (rebuilt rows h.1) ∙ ap (λ x. x ∷ map cells (map back rows)) h.0

  pub in_any : (xs : List T) (rows : List Row) → IsPermutation (map cells xs) rows → (rows ≡ map cells (map back rows)) × IsPermutation xs (map back rows)
  in_any xs rows any = (
    rebuilt rows (recursion_from_All (λ r. r ≡ cells (back r)) rows (All-permutation (λ r. r ≡ cells (back r)) _ rows any (All-from_recursion (λ r. r ≡ cells (back r)) _ (rows_are xs)))),
    subst (λ ys. IsPermutation ys (map back rows)) (read_back cells back same xs) (IsPermutation-map back _ _ any),
  )

-- one item at most has one order
pub only_order : {T : Type 0} (o : Option T) (ys : List T) → IsPermutation (option_map_or (λ x. x ∷ []) o []) ys → ys ≡ option_map_or (λ x. x ∷ []) o []
only_order (Some x) ys same = one_permutation x ys same
only_order None [] same = refl
only_order None (y ∷ ys) same = absurd (omega (arith, length_permutation _ _ same))
