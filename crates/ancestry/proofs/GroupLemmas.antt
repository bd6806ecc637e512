-- Groups of links, joined end to end: they keep the links as groups grow, end and change places.
use Rattle.std.proofs.Common.{◌≡◌, ℕ, ◌<◌, zero, suc, List, [], ◌∷◌, ◌++◌, length, get_or, set, flat_map, sym, ap, ◌∙◌, subst, arith}
use Rattle.std.proofs.lemmas.List.{append-nil, append_assoc}
use Rattle.std.proofs.lemmas.List.Edits.{swap_is}
use Rattle.std.proofs.SliceLists.{hd}
use Rattle.std.proofs.lemmas.List.Sorted.{IsPermutation-refl, IsPermutation-trans, IsPermutation-keeps, IsPermutation-append_left}
use Rattle.std.proofs.lemmas.List.Sorted.{IsPermutation-append_right, IsPermutation-append_comm}
use Rattle.std.specs.List.Sorted.{IsPermutation}

module _ {X : Type 0} where
  -- the first of three lists goes behind the second
  second_first : (a b c : List X) → IsPermutation (a ++ (b ++ c)) (b ++ (a ++ c))
  second_first a b c =
      subst (λ l. IsPermutation l (b ++ (a ++ c))) (append_assoc a b c)
      (subst (IsPermutation ((a ++ b) ++ c)) (append_assoc b a c)
      (IsPermutation-append_left c (a ++ b) (b ++ a) (IsPermutation-append_comm a b)))

module _ {G X : Type 0} (f : G → List X) where
  -- what stood at a place comes out where another is written there
  written : (gs : List G) (k : ℕ) (y d : G) → k < length gs
      → IsPermutation (f y ++ flat_map f gs) (f (get_or gs k d) ++ flat_map f (set gs k y))
  written [] k y d l = absurd (omega arith)
  written (g ∷ gs) zero y d l = second_first (f y) (f g) (flat_map f gs)
  written (g ∷ gs) (suc k) y d l =
      let there = f (get_or gs k d) in
      let rest = flat_map f (set gs k y) in
      IsPermutation-trans _ _ _ (second_first (f y) (f g) (flat_map f gs))
      (IsPermutation-trans _ _ _
      (IsPermutation-append_right (f g) (f y ++ flat_map f gs) (there ++ rest) (written gs k y d (omega arith)))
      (second_first (f g) there rest))

  swapped : (gs : List G) (i j : ℕ) (d : G) → i < length gs → j < length gs
      → IsPermutation (flat_map f gs) (flat_map f (set (set gs i (get_or gs j d)) j (get_or gs i d)))
  swapped [] i j d p q = absurd (omega arith)
  swapped (g ∷ gs) zero zero d p q = IsPermutation-refl (flat_map f (g ∷ gs))
  swapped (g ∷ gs) zero (suc j) d p q = written gs j g d (omega arith)
  swapped (g ∷ gs) (suc i) zero d p q = written gs i g d (omega arith)
  swapped (g ∷ gs) (suc i) (suc j) d p q =
      IsPermutation-append_right (f g) _ _ (swapped gs i j d (omega arith) (omega arith))

  -- groups in another order have the same elements, joined
  pub joined_moved : (gs hs : List G) → IsPermutation gs hs → IsPermutation (flat_map f gs) (flat_map f hs)
  joined_moved gs = IsPermutation-keeps gs (λ hs. IsPermutation (flat_map f gs) (flat_map f hs))
      (IsPermutation-refl (flat_map f gs))
      (λ hs i j p q same.
      let d : G = hd hs (omega arith) in
      IsPermutation-trans _ _ _ same
      (subst (λ is. IsPermutation (flat_map f hs) (flat_map f is)) (swap_is hs i j d p q) (swapped hs i j d p q)))

module _ {X : Type 0} (all : List X) where
  -- the links of a source are put, and those of the next follow
  pub source_put : (links put group next rest left : List X) → IsPermutation (links ++ group) put → left ≡ next ++ rest
      → IsPermutation all (links ++ group ++ left) → IsPermutation all (put ++ next ++ rest)
  source_put links put group next rest left same first kept =
      IsPermutation-trans all (links ++ group ++ left) (put ++ next ++ rest) kept
      (subst (IsPermutation (links ++ group ++ left)) (ap (λ l. put ++ l) first ∙ sym (append_assoc put next rest))
      (IsPermutation-append_left left (links ++ group) put same))

  -- the links of the last source are put, and none are left
  pub last_put : (links put group left : List X) → IsPermutation (links ++ group) put → left ≡ []
      → IsPermutation all (links ++ group ++ left) → IsPermutation all put
  last_put links put group left same none kept =
      IsPermutation-trans all (links ++ group) put
      (subst (IsPermutation all) (ap (λ l. links ++ group ++ l) none ∙ append-nil (links ++ group)) kept) same
