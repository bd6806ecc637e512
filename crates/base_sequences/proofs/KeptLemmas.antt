-- A list of one after a test of its element.
use Rattle.std.proofs.Common.{◌≡◌, Bool, List, [], ◌∷◌, refl, subst}
use Rattle.std.specs.List.{items_where_true}
use Rattle.std.specs.List.Retain.{IsFiltered}

pub filtered-one : {X P : Type 0} (R : P → X → Bool → P → Type 0) (p q : P) (x : X) (b : Bool) (xs ys : List X)
    → x ∷ [] ≡ xs → R p x b q → ys ≡ items_where_true (b ∷ []) (x ∷ []) → IsFiltered R p xs ys
filtered-one R p q x b xs ys e r k = subst (λ zs. IsFiltered R p zs ys) e (b ∷ [], q, refl, (q, r, refl), k)
