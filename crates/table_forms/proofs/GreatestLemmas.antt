-- The greatest of a column of numbers is the first one, where they go down.
use Rattle.std.proofs.Common.{◌≡◌, ℕ, ◌+◌, ◌≤◌, ◌<◌, max, suc, add-one, false, List, [], ◌∷◌, take, map, Some, None, Ordering, is_lt, refl, sym, ap, subst, ◌∙◌, arith}
use Rattle.std.specs.List.{AllByRecursion}
use Rattle.std.specs.List.Sorted.{IsPermutation, IsSorted}
use Rattle.std.proofs.lemmas.List.Sorted.{IsPermutation-sym, All-permutation}
use Rattle.std.proofs.lemmas.List.Elements.{All-from_recursion, recursion_from_All}
use Rattle.sqlite.specs.Query.{Output}
use Rattle.table_forms.proofs.QueryLemmas.{map_map}
use Rattle.table_forms.proofs.ReadLemmas.{pair_of, back, numbers_out}
use Rattle.table_forms.specs.Numbers.{number_row, next_above, AreGreatest}

weaker : (P Q : ℕ → Type 0) → ((n : ℕ) → P n → Q n) → (ns : List ℕ) → AllByRecursion P ns → AllByRecursion Q ns
weaker P Q f [] all = tt
weaker P Q f (n ∷ ns) all = (f n all.0, weaker P Q f ns all.1)

all_below : (ns : List ℕ) → AllByRecursion (λ n. n < next_above ns) ns
all_below [] = tt
all_below (n ∷ ns) = (
  omega arith,
  weaker (λ m. m < next_above ns) (λ m. m < max (n + 1) (next_above ns)) (λ m low. omega (arith, low)) ns (all_below ns),
)

is_least : (k : ℕ) (ns : List ℕ) → AllByRecursion (λ n. n < k) ns → next_above ns ≤ k
is_least k [] all = omega arith
is_least k (n ∷ ns) all = let first : n < k = all.0 in let rest = is_least k ns all.1 in omega (arith, first, rest)

not_above : (ns ms : List ℕ) → IsPermutation ms ns → next_above ns ≤ next_above ms
not_above ns ms same =
    is_least (next_above ms) ns
    (recursion_from_All (λ n. n < next_above ms) ns (All-permutation (λ n. n < next_above ms) ms ns same (All-from_recursion (λ n. n < next_above ms) ms (all_below ms))))

-- in another order they have the same one above them
pub same_next : (ns ms : List ℕ) → IsPermutation ns ms → next_above ns ≡ next_above ms
same_next ns ms same =
    let up = not_above ms ns same in
    let down = not_above ns ms (IsPermutation-sym ns ms same) in
    omega (arith, up, down)

down_from : (cmp : Output → Output → Ordering) → ((a b : ℕ) → is_lt (cmp (pair_of b) (pair_of a)) ≡ false → b ≤ a) → (n : ℕ) (ns : List ℕ) → IsSorted cmp (map pair_of (n ∷ ns))
    → AllByRecursion (λ m. m < n + 1) ns
down_from cmp high n [] sorted = tt
down_from cmp high n (m ∷ ns) sorted =
    let first : m ≤ n = high n m (sorted 0 (pair_of n) (omega arith) (omega arith)) in
    let rest = down_from cmp high m ns (λ k d p q. rw add-one (rw add-one at (sorted (suc k) d (omega arith) (omega arith)))) in
    (omega (arith, first), weaker (λ x. x < m + 1) (λ x. x < n + 1) (λ x low. omega (arith, low, first)) ns rest)

first_row : (cmp : Output → Output → Ordering) → ((a b : ℕ) → is_lt (cmp (pair_of b) (pair_of a)) ≡ false → b ≤ a) → (ns ms : List ℕ) → IsPermutation ns ms → IsSorted cmp (map pair_of ms)
    → AreGreatest ns (take 1 (map number_row ms))
first_row cmp high ns [] same sorted = record { greatest = None; are = refl; next = same_next ns [] same }
first_row cmp high ns (m ∷ ms) same sorted =
    let rest = is_least (m + 1) ms (down_from cmp high m ms sorted) in
    record { greatest = Some m; are = refl; next = same_next ns (m ∷ ms) same ∙ omega (arith, rest) }

-- the first row of those that go down
pub greatest_first : (cmp : Output → Output → Ordering) → ((a b : ℕ) → is_lt (cmp (pair_of b) (pair_of a)) ≡ false → b ≤ a) → (ns : List ℕ) (outs : List Output)
    → IsPermutation (map pair_of ns) outs → IsSorted cmp outs → AreGreatest ns (take 1 (map (λ o. o.1) outs))
greatest_first cmp high ns outs same sorted =
    let are = numbers_out ns outs same in
    subst (λ rows. AreGreatest ns (take 1 rows)) (sym (ap (map (λ (o : Output). o.1)) are.0 ∙ map_map pair_of (λ (o : Output). o.1) _))
    (first_row cmp high ns (map back outs) are.1 (subst (IsSorted cmp) are.0 sorted))
