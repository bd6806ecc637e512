-- Answers of one column of numbers.
use Rattle.std.proofs.Common.{◌≡◌, ℕ, ◌<◌, ◌+◌, suc, zero, List, [], ◌∷◌, ◌++◌, length, get_or, take, map, refl, ap, subst, ◌∙◌, arith}
use Rattle.std.specs.List.{AllByRecursion}
use Rattle.std.specs.List.Sorted.{IsPermutation}
use Rattle.std.proofs.lemmas.List.{length-map}
use Rattle.std.proofs.lemmas.List.Sorted.{IsPermutation-map, All-permutation}
use Rattle.std.proofs.lemmas.List.Elements.{All-from_recursion, recursion_from_All}
use Rattle.std.proofs.lemmas.Grind.{common_steps}
use Rattle.sqlite.specs.Order.{Row, column}
use Rattle.table_forms.specs.Numbers.{number_in, number_row}

-- the number in the first cell of a row
abbrev pub number_at_front : Row → ℕ
number_at_front r = number_in (column r 0)

rows_are : (ns : List ℕ) → AllByRecursion (λ r. r ≡ number_row (number_at_front r)) (map number_row ns)
rows_are [] = tt
rows_are (n ∷ ns) = (refl, rows_are ns)

rebuilt : (rows : List Row) → AllByRecursion (λ r. r ≡ number_row (number_at_front r)) rows → rows ≡ map number_row (map number_at_front rows)
rebuilt [] h = refl
rebuilt (r ∷ rows) h = ap (λ rs. r ∷ rs) (rebuilt rows h.1) ∙ ap (λ x. x ∷ map number_row (map number_at_front rows)) h.0

backs : (ns : List ℕ) → map number_at_front (map number_row ns) ≡ ns
backs [] = refl
backs (n ∷ ns) = ap (λ ms. n ∷ ms) (backs ns)

pub numbers_in_any : (ns : List ℕ) (rows : List Row) → IsPermutation (map number_row ns) rows → (rows ≡ map number_row (map number_at_front rows)) × IsPermutation ns (map number_at_front rows)
numbers_in_any ns rows same = (
  rebuilt rows (recursion_from_All (λ r. r ≡ number_row (number_at_front r)) rows (All-permutation (λ r. r ≡ number_row (number_at_front r)) _ rows same (All-from_recursion (λ r. r ≡ number_row (number_at_front r)) _ (rows_are ns)))),
  subst (λ ms. IsPermutation ms (map number_at_front rows)) (backs ns) (IsPermutation-map number_at_front _ _ same),
)

-- ---- one row after another

in_map : (ns : List ℕ) (at : ℕ) (r : Row) → at < length ns → get_or (map number_row ns) at r ≡ number_row (get_or ns at 0)
in_map [] at r low = absurd (omega arith)
in_map (n ∷ ns) zero r low = refl
in_map (n ∷ ns) (suc at) r low = in_map ns at r (omega arith)

-- a row of an answer of numbers
pub number_at : (rows : List Row) (ns : List ℕ) (at : ℕ) (r : Row) → at < length rows → r ≡ get_or rows at r → rows ≡ map number_row ns → r ≡ number_row (get_or ns at 0)
number_at rows ns at r low is are =
    let len : length rows ≡ length ns = ap length are ∙ length-map ns number_row in
    is ∙ ap (λ rs. get_or rs at r) are ∙ in_map ns at r (omega (arith, low, len))

pub take_next : (rows : List Row) (ns : List ℕ) (at : ℕ) → at < length rows → rows ≡ map number_row ns → take (at + 1) ns ≡ take at ns ++ get_or ns at 0 ∷ []
take_next rows ns at low are =
    let len : length rows ≡ length ns = ap length are ∙ length-map ns number_row in
    let within : at < length ns = omega (arith, low, len) in
    grind (arith, common_steps)
