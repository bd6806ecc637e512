-- A column of numbers in order, over any query that shows and orders by it, and what is known where
-- rows were shown.
use Rattle.std.proofs.Common.{◌≡◌, ℕ, ◌≤◌, suc, add-one, false, List, [], ◌∷◌, map, IsTrue, Ordering, is_lt, refl, ap, subst, ◌∙◌, arith}
use Rattle.std.specs.List.{AllByRecursion}
use Rattle.std.specs.List.Sorted.{IsPermutation, IsSorted}
use Rattle.std.proofs.lemmas.List.Sorted.{IsPermutation-map, All-permutation}
use Rattle.std.proofs.lemmas.List.Elements.{All-from_recursion, recursion_from_All}
use Rattle.sqlite.specs.Order.{Row, column}
use Rattle.sqlite.specs.Query.{Output}
use Rattle.sqlite.specs.Listing.{understood}
use Rattle.sqlite.specs.State.{State, Shown, IsUnchanged, ShowsRows}
use Rattle.sqlite.proofs.Callers.{IsPlain}
use Rattle.sqlite_schema.specs.declared.command.Returning.{Returning}
use Rattle.sqlite_resolve.specs.declared.compiled.Compiled.{Compiled}
use Rattle.std.proofs.Common.{Option, Some, None}
use Rattle.table_forms.proofs.QueryLemmas.{map_map}
use Rattle.table_forms.proofs.OrderLemmas.{IsUp, all_least, one_order}
use Rattle.table_forms.specs.Numbers.{with_numbers, number_in, number_row}

-- ---- a column of numbers in order, over any query that shows and orders by that column

abbrev pub pair_of : ℕ → Output
pair_of n = (number_row n, number_row n)

abbrev pub back : Output → ℕ
back o = number_in (column o.0 0)

pairs_are : (ns : List ℕ) → AllByRecursion (λ o. o ≡ pair_of (back o)) (map pair_of ns)
pairs_are [] = tt
pairs_are (n ∷ ns) = (refl, pairs_are ns)

rebuilt : (outs : List Output) → AllByRecursion (λ o. o ≡ pair_of (back o)) outs → outs ≡ map pair_of (map back outs)
rebuilt [] h = refl
rebuilt (o ∷ outs) h = ap (λ os. o ∷ os) (rebuilt outs h.1) ∙ ap (λ p. p ∷ map pair_of (map back outs)) h.0

backs : (ns : List ℕ) → map back (map pair_of ns) ≡ ns
backs [] = refl
backs (n ∷ ns) = ap (λ ms. n ∷ ms) (backs ns)

up_from : (cmp : Output → Output → Ordering) → ((a b : ℕ) → is_lt (cmp (pair_of b) (pair_of a)) ≡ false → a ≤ b) → (ns : List ℕ) → IsSorted cmp (map pair_of ns) → IsUp ns
up_from cmp low [] sorted = tt
up_from cmp low (n ∷ []) sorted = (tt, tt)
up_from cmp low (n ∷ m ∷ ns) sorted =
    let first : n ≤ m = low n m (sorted 0 (pair_of n) (omega arith) (omega arith)) in
    let rest = up_from cmp low (m ∷ ns) (λ k d p q. rw add-one (rw add-one at (sorted (suc k) d (omega arith) (omega arith)))) in
    ((first, all_least n m ns first rest.0), rest)

-- the outputs are those of numbers, in some order
pub numbers_out : (ns : List ℕ) (outs : List Output) → IsPermutation (map pair_of ns) outs → (outs ≡ map pair_of (map back outs)) × IsPermutation ns (map back outs)
numbers_out ns outs same = (
  rebuilt outs (recursion_from_All (λ o. o ≡ pair_of (back o)) outs (All-permutation (λ o. o ≡ pair_of (back o)) _ outs same (All-from_recursion (λ o. o ≡ pair_of (back o)) _ (pairs_are ns)))),
  subst (λ ms. IsPermutation ms (map back outs)) (backs ns) (IsPermutation-map back _ _ same),
)

pub numbers_in_order : (cmp : Output → Output → Ordering) → ((a b : ℕ) → is_lt (cmp (pair_of b) (pair_of a)) ≡ false → a ≤ b) → (ns : List ℕ) (outs : List Output)
    → IsPermutation (map pair_of ns) outs → IsSorted cmp outs → map (λ o. o.1) outs ≡ map number_row (with_numbers [] ns)
numbers_in_order cmp low ns outs same sorted =
    let are = numbers_out ns outs same in
    let up = up_from cmp low (map back outs) (subst (IsSorted cmp) are.0 sorted) in
    ap (map (λ (o : Output). o.1)) are.0 ∙ map_map pair_of (λ (o : Output). o.1) _ ∙ ap (map number_row) (one_order ns (map back outs) are.1 up)

-- rows were shown, so the connection was open
opens : (old new : State) (sql : List ℕ) (c : Compiled) (params : Row) (rows : List Row) (r : Option Returning) → ShowsRows old new sql c params rows r → IsTrue old.is_open
opens old new sql c params rows None h = h.3.0.was_open
opens old new sql c params rows (Some what) h = h.1.shown.was_open

pub shown_open : (old new : State) (sql : List ℕ) (params : Row) (rows : List Row) → Shown sql params old new rows → IsTrue old.is_open
unfolding Shown
shown_open old new sql params rows h = opens old new sql h.0 _ rows h.0.returning h.2

pub shown_same : (old new : State) (sql : List ℕ) (params : Row) (rows : List Row) → IsPlain (understood old.now.schema sql) → Shown sql params old new rows → IsUnchanged old new
unfolding Shown
shown_same old new sql params rows plain h = (subst (ShowsRows old new sql h.0 _ rows) (subst IsPlain h.1.is plain).0 h.2).3
