-- Keys compare by a total order.

use Rattle.std.proofs.Common.{◌≡◌, ℕ, ◌+◌, ◌≤◌, suc, zero, List, [], ◌∷◌, length, refl, ap, sym, ◌∙◌, arith}
use Rattle.std.specs.Ordering.{nat_cmp, ordering_then, ordering_reverse}
use Rattle.std.specs.Cmp.{IsTotalOrder, tied_itself}
use Rattle.std.specs.Cmp.Lexicographic.{slice_cmp, nat_list_cmp_total}
use Rattle.std.specs.declared.cmp.Ordering.{Ordering}
use Rattle.std.specs.declared.cmp.Ordering.TheVariants.{Less, Equal, Greater}
use Rattle.debver.specs.Keys.{first_numbers, key_cmp}

-- 1, 0, 1, 0 and so on against a key
abbrev end_cmp : List ℕ → Ordering
end_cmp [] = Equal
end_cmp (y ∷ []) = ordering_then (nat_cmp 1 y) Less
end_cmp (y ∷ z ∷ l) = ordering_then (nat_cmp 1 y) (ordering_then (nat_cmp 0 z) (end_cmp l))

-- a key against 1, 0, 1, 0 and so on
abbrev cmp_end : List ℕ → Ordering
cmp_end [] = Equal
cmp_end (x ∷ []) = ordering_then (nat_cmp x 1) Greater
cmp_end (x ∷ y ∷ k) = ordering_then (nat_cmp x 1) (ordering_then (nat_cmp y 0) (cmp_end k))

-- key_cmp by recursion
abbrev pub walk_cmp : List ℕ → List ℕ → Ordering
walk_cmp [] l = end_cmp l
walk_cmp (x ∷ k) [] = cmp_end (x ∷ k)
walk_cmp (x ∷ k) (y ∷ l) = ordering_then (nat_cmp x y) (walk_cmp k l)

agree_end : (n : ℕ) (l : List ℕ) → length l + 2 ≤ n → slice_cmp nat_cmp (first_numbers n []) (first_numbers n l) ≡ end_cmp l
agree_end n [] h = tied_itself nat_list_cmp_total (first_numbers n [])
agree_end zero (y ∷ l) h = absurd (omega arith)
agree_end (suc zero) (y ∷ l) h = absurd (omega arith)
agree_end (suc (suc n)) (y ∷ []) h = refl
agree_end (suc (suc n)) (y ∷ z ∷ l) h =
    ap (λ o. ordering_then (nat_cmp 1 y) (ordering_then (nat_cmp 0 z) o)) (agree_end n l (omega arith))

end_agree : (n : ℕ) (k : List ℕ) → length k + 2 ≤ n → slice_cmp nat_cmp (first_numbers n k) (first_numbers n []) ≡ cmp_end k
end_agree n [] h = tied_itself nat_list_cmp_total (first_numbers n [])
end_agree zero (y ∷ l) h = absurd (omega arith)
end_agree (suc zero) (y ∷ l) h = absurd (omega arith)
end_agree (suc (suc n)) (y ∷ []) h = refl
end_agree (suc (suc n)) (y ∷ z ∷ l) h =
    ap (λ o. ordering_then (nat_cmp y 1) (ordering_then (nat_cmp z 0) o)) (end_agree n l (omega arith))

agree : (n : ℕ) (k l : List ℕ) → length k + length l + 2 ≤ n
    → slice_cmp nat_cmp (first_numbers n k) (first_numbers n l) ≡ walk_cmp k l
agree n [] l h = agree_end n l (omega arith)
agree n (x ∷ k) [] h = end_agree n (x ∷ k) (omega arith)
agree zero (x ∷ k) (y ∷ l) h = absurd (omega arith)
agree (suc n) (x ∷ k) (y ∷ l) h = ap (ordering_then (nat_cmp x y)) (agree n k l (omega arith))

pub key_cmp_walk : (k l : List ℕ) → key_cmp k l ≡ walk_cmp k l
key_cmp_walk k l = agree (length k + length l + 2) k l (omega arith)

-- at any greater number of places keys compare alike
pub key_cmp_at : (n : ℕ) (k l : List ℕ) → length k + length l + 2 ≤ n
    → key_cmp k l ≡ slice_cmp nat_cmp (first_numbers n k) (first_numbers n l)
key_cmp_at n k l h = key_cmp_walk k l ∙ sym (agree n k l h)

pub key_cmp_total : IsTotalOrder key_cmp
key_cmp_total = record {
  antisymm = λ x y.
      let n = length x + length y + 2 in
      nat_list_cmp_total.antisymm (first_numbers n x) (first_numbers n y)
      ∙ ap ordering_reverse (sym (key_cmp_at n y x (omega arith)));
  trans = λ x y z p q.
      let n = length x + length y + length z + 2 in
      key_cmp_at n x z (omega arith)
      ∙ nat_list_cmp_total.trans (first_numbers n x) (first_numbers n y) (first_numbers n z)
      (sym (key_cmp_at n x y (omega arith)) ∙ p) (sym (key_cmp_at n y z (omega arith)) ∙ q);
  congr = λ x y z p.
      let n = length x + length y + length z + 2 in
      key_cmp_at n x z (omega arith)
      ∙ nat_list_cmp_total.congr (first_numbers n x) (first_numbers n y) (first_numbers n z)
      (sym (key_cmp_at n x y (omega arith)) ∙ p)
      ∙ sym (key_cmp_at n y z (omega arith));
}
