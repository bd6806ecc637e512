-- The comma at the end of a word.
use Rattle.std.proofs.Common.{◌≡◌, ◌≢◌, ℕ, Bool, true, false, List, [], ◌∷◌, ◌++◌, Option, Some, None, refl, ap, sym, ◌∙◌, inl, inr}
use Rattle.std.specs.Prelude.{◌==◌, ◌||◌, if◌then◌else◌, option_map, unwrap_or, is_some}
use Rattle.std.proofs.lemmas.Bool.{cases_Bool, eqb-true, cond-true, cond-false}
use Rattle.control_text.specs.Tokens.{without_comma, is_dot, text_of, ends_command}

pub without_comma-append : (front : List ℕ) → without_comma (front ++ (44 ∷ [])) ≡ Some front
without_comma-append [] = refl
without_comma-append (c ∷ []) = refl
without_comma-append (c ∷ d ∷ front) = ap (option_map (λ f. c ∷ f)) (without_comma-append (d ∷ front))

onto : (c : ℕ) (s f : List ℕ) (o : Option (List ℕ)) → ((g : List ℕ) → o ≡ Some g → s ≡ g ++ (44 ∷ []))
    → option_map (λ g. c ∷ g) o ≡ Some f → c ∷ s ≡ f ++ (44 ∷ [])
onto c s f None h e = absurd (cc)
onto c s f (Some g) h e =
    let is : c ∷ g ≡ f = cc in
    ap (λ t. c ∷ t) (h g refl) ∙ ap (λ t. t ++ (44 ∷ [])) is

last_comma : (c : ℕ) (f : List ℕ) → (if c == 44 then Some [] else None) ≡ Some f → c ∷ [] ≡ f ++ (44 ∷ [])
last_comma c f e = elim (cases_Bool (c == 44)) [
  | inl h ↦
      let some : Some [] ≡ Some f = sym (cond-true (c == 44) (Some []) None h) ∙ e in
      let is : [] ≡ f = cc in
      ap (λ d. d ∷ []) (eqb-true c 44 h) ∙ ap (λ t. t ++ (44 ∷ [])) is
  | inr h ↦ let none : None ≡ Some f = sym (cond-false (c == 44) (Some []) None h) ∙ e in absurd (cc)
]

pub without_comma-some : (s f : List ℕ) → without_comma s ≡ Some f → s ≡ f ++ (44 ∷ [])
without_comma-some [] f e = absurd (cc)
without_comma-some (c ∷ []) f e = last_comma c f e
without_comma-some (c ∷ d ∷ s) f e =
    onto c (d ∷ s) f (without_comma (d ∷ s)) (λ g h. without_comma-some (d ∷ s) g h) e

unless : (s : List ℕ) (o : Option (List ℕ)) → ((f : List ℕ) → o ≡ Some f → s ≡ f ++ (44 ∷ []))
    → ((front : List ℕ) → s ≢ front ++ (44 ∷ [])) → o ≡ None
unless s None h never = refl
unless s (Some f) h never = absurd (never f (h f refl))

pub without_comma-none : (s : List ℕ) → ((front : List ℕ) → s ≢ front ++ (44 ∷ [])) → without_comma s ≡ None
without_comma-none s never = unless s (without_comma s) (without_comma-some s) never

-- a word that ends in a comma
pub text-comma : (word front : List ℕ) → is_dot word ≡ false → word ≡ front ++ (44 ∷ []) → front ≡ text_of word
text-comma word front other e =
    let cut = ap without_comma e ∙ without_comma-append front in
    sym (ap (λ o. unwrap_or o word) cut) ∙ sym (cond-false (is_dot word) [] (unwrap_or (without_comma word) word) other)

pub ends-comma : (word front : List ℕ) → word ≡ front ++ (44 ∷ []) → true ≡ ends_command word
ends-comma word front e =
    sym (or_from_right (is_dot word) (is_some (without_comma word)) (ap (λ o. is_some o) (ap without_comma e ∙ without_comma-append front)))
  where
    or_from_right : (a b : Bool) → b ≡ true → (a || b) ≡ true
    or_from_right true b h = refl
    or_from_right false b h = h

-- a word that does not, and is no dot
pub text-whole : (word : List ℕ) → is_dot word ≡ false → ((front : List ℕ) → word ≢ front ++ (44 ∷ [])) → word ≡ text_of word
text-whole word other never =
    sym (ap (λ o. unwrap_or o word) (without_comma-none word never))
    ∙ sym (cond-false (is_dot word) [] (unwrap_or (without_comma word) word) other)

pub ends-whole : (word : List ℕ) → is_dot word ≡ false → ((front : List ℕ) → word ≢ front ++ (44 ∷ [])) → false ≡ ends_command word
ends-whole word other never =
    sym (ap (λ b. b || is_some (without_comma word)) other ∙ ap (λ o. is_some o) (without_comma-none word never))
