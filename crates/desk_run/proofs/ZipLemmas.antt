-- Lists of pairs, by their parts.
use Rattle.std.proofs.Common.{◌≡◌, List, [], ◌∷◌, ◌++◌, length, map, take, drop, zip, refl, ap, sym}

pub zip-none : {A B : Type 0} (xs : List A) (none : List B) → none ≡ [] → zip xs none ≡ []
zip-none [] none e = refl
zip-none (x ∷ xs) [] e = refl
zip-none (x ∷ xs) (y ∷ none) e = absurd (cc)

-- pairs with one list after another
pub zip-append : {A B : Type 0} (xs : List A) (ys zs : List B) → zip xs (ys ++ zs) ≡ zip xs ys ++ zip (drop (length ys) xs) zs
zip-append xs [] zs = ap (λ l. l ++ zip xs zs) (sym (zip-none xs [] refl))
zip-append [] (y ∷ ys) zs = refl
zip-append (x ∷ xs) (y ∷ ys) zs = ap (λ l. (x, y) ∷ l) (zip-append xs ys zs)

-- pairs are made of their parts
pub zip-parts : {A B : Type 0} (ps : List (A × B)) (xs : List A) → map (λ p. p.0) ps ≡ take (length ps) xs
    → zip xs (map (λ p. p.1) ps) ≡ ps
zip-parts [] xs h = zip-none xs [] refl
zip-parts (p ∷ ps) [] h = absurd (cc)
zip-parts (p ∷ ps) (x ∷ xs) h =
    let first : p.0 ≡ x = cc in
    let rest : map (λ p. p.0) ps ≡ take (length ps) xs = cc in
    (λ i. (sym first i, p.1) ∷ zip-parts ps xs rest i)
