-- Maps by number: which numbers they have, and rows that come into them.
-- Nothing here speaks of tables.
use Rattle.std.proofs.Common.{◌≡◌, ◌<◌, ℕ, Bool, true, false, cond, ◌||◌, ◌==◌, List, [], ◌∷◌, Some, Less, refl, arith}
use Rattle.std.specs.Prelude.{is_some}
use Rattle.std.specs.BTreeMap.{BTreeMap, get, is_at}
use Rattle.std.specs.List.{AllByRecursion}
use Rattle.std.specs.List.Sorted.{IsStrictlySortedBy}
use Rattle.std.specs.Map.{keys_of, lookup}
use Rattle.std.specs.Ordering.{nat_cmp}
use Rattle.std.proofs.lemmas.Bool.Decides.{nat_tests}
use Rattle.bug_record.specs.Sets.{has, AllAbove, IsAscending}

-- ---- numbers in order

less : (x y : ℕ) → nat_cmp x y ≡ Less → x < y
less x y e = grind (arith, nat_tests, e)

all_above : (x : ℕ) (xs : List ℕ) → AllByRecursion (λ y. nat_cmp x y ≡ Less) xs → AllAbove x xs
all_above x [] h = tt
all_above x (y ∷ ys) h = (less x y h.0, all_above x ys h.1)

pub ascending : (xs : List ℕ) → IsStrictlySortedBy nat_cmp xs → IsAscending xs
unfolding IsStrictlySortedBy
ascending [] h = tt
ascending (x ∷ xs) h = (all_above x xs h.0, ascending xs h.1)

-- ---- which numbers a map has

here_is : (n k : ℕ) → is_at (nat_cmp n) k ≡ (k == n)
here_is n k = grind (arith, nat_tests)

has_keys : {X : Type 0} (es : List (ℕ × X)) (n : ℕ) → has (keys_of es) n ≡ is_some (lookup (is_at (nat_cmp n)) es)
has_keys [] n = refl
has_keys (e ∷ es) n = go (e.0 == n) (here_is n e.0) (has_keys es n)
  where
    go : (b : Bool) → is_at (nat_cmp n) e.0 ≡ b → has (keys_of es) n ≡ is_some (lookup (is_at (nat_cmp n)) es)
        → (b || has (keys_of es) n) ≡ is_some (cond (is_at (nat_cmp n) e.0) (Some e.1) (lookup (is_at (nat_cmp n)) es))
    go true is h = rw is refl
    go false is h = rw is h

pub has_number : {X : Type 0} (m : BTreeMap ℕ X) (n : ℕ) → has (keys_of m.entries) n ≡ is_some (get nat_cmp m n)
has_number m n = has_keys m.entries n
