-- The key of a string, part by part.

use Rattle.std.proofs.Common.{◌≡◌, ℕ, ◌+◌, ◌-◌, ◌*◌, List, [], ◌∷◌, ◌++◌, refl, ap, sym, ◌∙◌, arith, true, false, cond, map}
use Rattle.std.specs.Prelude.{Some}
use Rattle.std.specs.List.{list_any, list_all}
use Rattle.std.proofs.lemmas.Bool.{and_parts, or_parts}
use Rattle.debver.specs.Characters.{is_digit}
use Rattle.debver.specs.Keys.{key, key_from, weight, value, value_from, starts_digit, key_after}
use Rattle.debver.proofs.KeySteps.{key_word, key_digit}

after_digits : (n : ℕ) (ds rest : List ℕ) → list_all is_digit ds ≡ true → starts_digit rest ≡ false
    → key_from (Some n) (ds ++ rest) ≡ value_from n ds ∷ key_after rest
after_digits n [] [] d r = refl
after_digits n [] (c ∷ s) d r =
    ap (λ b. cond b (key_from (Some (n * 10 + (c - 48))) s) (n ∷ weight c ∷ key s)) r ∙ ap (λ k. n ∷ k) (sym (key_word c s r))
after_digits n (c ∷ ds) rest d r =
    let p = and_parts (is_digit c) (list_all is_digit ds) d in
    ap (λ b. cond b (key_from (Some (n * 10 + (c - 48))) (ds ++ rest)) (n ∷ weight c ∷ key (ds ++ rest))) p.0
    ∙ after_digits (n * 10 + (c - 48)) ds rest p.1 r

pub key_by_parts : (word digits rest : List ℕ) → list_any is_digit word ≡ false → list_all is_digit digits ≡ true
    → starts_digit rest ≡ false → (digits ≡ [] → rest ≡ [])
    → key (word ++ (digits ++ rest)) ≡ map weight word ++ (1 ∷ value digits ∷ key_after rest)
key_by_parts [] [] [] w d r e = refl
key_by_parts [] [] (c ∷ s) w d r e = let z = e refl in absurd (cc)
key_by_parts [] (c ∷ ds) rest w d r e =
    let p = and_parts (is_digit c) (list_all is_digit ds) d in
    key_digit c (ds ++ rest) p.0 ∙ ap (λ k. 1 ∷ k) (after_digits (c - 48) ds rest p.1 r)
    ∙ ap (λ (m : ℕ). 1 ∷ value_from m ds ∷ key_after rest) (omega arith)
key_by_parts (c ∷ word) digits rest w d r e =
    let p = or_parts (is_digit c) (list_any is_digit word) w in
    key_word c (word ++ (digits ++ rest)) p.0 ∙ ap (λ k. weight c ∷ k) (key_by_parts word digits rest p.1 d r e)
