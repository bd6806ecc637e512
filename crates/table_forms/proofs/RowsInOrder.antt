-- The rows of an answer, one after another.
-- Nothing here speaks of a statement.
use Rattle.std.proofs.Common.{◌≡◌, ℕ, ◌<◌, ◌+◌, suc, zero, List, [], ◌∷◌, ◌++◌, length, get_or, take, map, refl, ap, ◌∙◌, arith}
use Rattle.std.specs.List.{AllByRecursion}
use Rattle.std.proofs.lemmas.Grind.{common_steps}
use Rattle.std.proofs.lemmas.List.{length-map}
use Rattle.sqlite.specs.Order.{Row}

module _ {T : Type 0} (cells : T → Row) (other : T) where
  in_map : (xs : List T) (at : ℕ) (r : Row) → at < length xs → get_or (map cells xs) at r ≡ cells (get_or xs at other)
  in_map [] at r low = absurd (omega arith)
  in_map (x ∷ xs) zero r low = refl
  in_map (x ∷ xs) (suc at) r low = in_map xs at r (omega arith)

  within : (rows : List Row) (xs : List T) (at : ℕ) → at < length rows → rows ≡ map cells xs → at < length xs
  within rows xs at low are = let len : length rows ≡ length xs = ap length are ∙ length-map xs cells in omega (arith, low, len)

  -- a row of the answer
  pub row_at : (rows : List Row) (xs : List T) (at : ℕ) (r : Row) → at < length rows → r ≡ get_or rows at r → rows ≡ map cells xs → r ≡ cells (get_or xs at other)
  row_at rows xs at r low is are = is ∙ ap (λ rs. get_or rs at r) are ∙ in_map xs at r (within rows xs at low are)

  -- those before a row, and its own
  pub take_more : (rows : List Row) (xs : List T) (at : ℕ) → at < length rows → rows ≡ map cells xs → take (at + 1) xs ≡ take at xs ++ get_or xs at other ∷ []
  take_more rows xs at low are = let inside : at < length xs = within rows xs at low are in grind (arith, common_steps)

  each : (P : T → Type 0) (xs : List T) (at : ℕ) → at < length xs → AllByRecursion P xs → P (get_or xs at other)
  each P [] at low all = absurd (omega arith)
  each P (x ∷ xs) zero low all = all.0
  each P (x ∷ xs) (suc at) low all = each P xs at (omega arith) all.1

  -- what holds of all holds of a row's own
  pub good_at : (P : T → Type 0) (rows : List Row) (xs : List T) (at : ℕ) → at < length rows → rows ≡ map cells xs → AllByRecursion P xs → P (get_or xs at other)
  good_at P rows xs at low are all = each P xs at (within rows xs at low are) all
