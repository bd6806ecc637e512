use Rattle.std.proofs.Common.{◌≡◌, not, ℕ, Bool, true, false, ◌&&◌, ◌||◌, List, [], ◌∷◌, refl, ap, ◌∙◌}
use Rattle.std.specs.List.{list_all, list_any}
use Rattle.base_words.specs.Blanks.{is_control}
use Rattle.base_words.proofs.texts.is_clean.Goals as goal

none_of : (p : ℕ → Bool) (s : List ℕ) → not (list_any p s) ≡ list_all (λ c. not (p c)) s
none_of p [] = refl
none_of p (c ∷ s) =
    elim (p c) as (λ b. not (b || list_any p s) ≡ (not b && list_all (λ c. not (p c)) s))
    [ true ↦ refl | false ↦ none_of p s ]

pub returns : goal.returns
returns c = ap not c.has_control.ensures ∙ none_of is_control c.args.text.now
