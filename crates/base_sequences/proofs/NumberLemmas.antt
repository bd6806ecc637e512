-- Sets of numbers that are added one by one.
use Rattle.std.proofs.Common.{◌≡◌, ℕ, Bool, true, false, ◌||◌, List, [], ◌∷◌, ◌++◌, sym, refl, ap, ◌∙◌}
use Rattle.std.specs.Prelude.{◌==◌}
use Rattle.base_sequences.specs.Sets.{has, IsAscending, with_item, with_items, number_set}
use Rattle.base_sequences.proofs.SetLemmas.{has-append, has-with_item, has-number_set, same-ascending}
use Rattle.base_sequences.proofs.SetLemmas.{IsAscending-with_item, IsAscending-number_set}

-- what is in a set with all numbers of a list
pub has-with_items : (ns set : List ℕ) (n : ℕ) → has (with_items (λ k. k) set ns) n ≡ (has set n || has ns n)
has-with_items [] set n = none (has set n)
  where
    none : (a : Bool) → a ≡ (a || false)
    none true = refl
    none false = refl
has-with_items (k ∷ ns) set n =
    has-with_items ns (with_item (λ k. k) set k) n ∙ ap (λ t. t || has ns n) (has-with_item set k n)
    ∙ group (has set n) (k == n) (has ns n)
  where
    group : (a b c : Bool) → ((a || b) || c) ≡ (a || (b || c))
    group true b c = refl
    group false b c = refl

pub IsAscending-with_items : (ns set : List ℕ) → IsAscending set → IsAscending (with_items (λ k. k) set ns)
IsAscending-with_items [] set h = h
IsAscending-with_items (k ∷ ns) set h = IsAscending-with_items ns (with_item (λ k. k) set k) (IsAscending-with_item set k h)

-- the set of a list
pub with_items-set : (ns : List ℕ) → with_items (λ k. k) [] ns ≡ number_set ns
with_items-set ns = same-ascending (with_items (λ k. k) [] ns) (number_set ns) (IsAscending-with_items ns [] tt)
    (IsAscending-number_set ns) (λ m. has-with_items ns [] m ∙ sym (has-number_set ns m))

-- the set of two lists
pub with_items-append : (ms ns : List ℕ) → with_items (λ k. k) (number_set ms) ns ≡ number_set (ms ++ ns)
with_items-append ms ns = same-ascending (with_items (λ k. k) (number_set ms) ns) (number_set (ms ++ ns))
    (IsAscending-with_items ns (number_set ms) (IsAscending-number_set ms)) (IsAscending-number_set (ms ++ ns))
    (λ m. has-with_items ns (number_set ms) m ∙ ap (λ t. t || has ns m) (has-number_set ms m)
    ∙ sym (has-append ms ns m) ∙ sym (has-number_set (ms ++ ns) m))
