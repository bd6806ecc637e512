-- Keys as an answer has them, in any order.
use Rattle.table_schema.proofs.Exports.{◌≡◌, ℕ, ◌||◌, ◌==◌, List, [], ◌∷◌, map, refl, sym, ap, ◌∙◌, list_any, IsPermutation, list_any-IsPermutation, has}

pub has_any : (n : ℕ) (xs : List ℕ) → has xs n ≡ list_any (λ y. y == n) xs
has_any n [] = refl
has_any n (x ∷ xs) = ap (λ b. (x == n) || b) (has_any n xs)

module _ {T : Type 0} (key : T → ℕ) (n : ℕ) where
  any_key : (xs : List T) → has (map key xs) n ≡ list_any (λ x. key x == n) xs
  any_key [] = refl
  any_key (x ∷ xs) = ap (λ b. (key x == n) || b) (any_key xs)

  -- a key is read where a row that passes has it
  pub has_key : (xs : List T) (keys : List ℕ) → IsPermutation (map key xs) keys → has keys n ≡ list_any (λ x. key x == n) xs
  has_key xs keys any = has_any n keys ∙ sym (list_any-IsPermutation (λ y. y == n) _ keys any) ∙ sym (has_any n (map key xs)) ∙ any_key xs
