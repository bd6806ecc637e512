-- Outcomes beside the lines that have one.
use Rattle.std.proofs.Common.{◌≡◌, ◌≤◌, ◌<◌, ◌+◌, ℕ, true, List, [], ◌∷◌, ◌++◌, Some, refl, ap, ◌∙◌, arith}
use Rattle.std.proofs.Common.{take, drop, length, get_or, append_assoc}
use Rattle.std.specs.Prelude.{zip, slice_get}
use Rattle.bug_record.specs.declared.outcome.Outcome.{Outcome}
use Rattle.store_contract.specs.Kept.{has_outcome, lines_told, outcomes_in}
use Rattle.message_recall.proofs.ToldLemmas.{lines-more, lines-split, line-told}

pub zip-seconds : (xs : List (List ℕ)) (zs : List Outcome) → length zs ≤ length xs → outcomes_in (zip xs zs) ≡ zs
zip-seconds [] [] h = refl
zip-seconds [] (z ∷ zs) h = absurd (omega arith)
zip-seconds (x ∷ xs) [] h = refl
zip-seconds (x ∷ xs) (z ∷ zs) h = ap (λ w. z ∷ w) (zip-seconds xs zs (omega arith))

-- all lines that have an outcome, at one of them
pub lines-at : (lines : List (List ℕ)) (i : ℕ) (line : List ℕ) → i < length lines → line ≡ get_or lines i line
    → has_outcome line ≡ true → lines_told lines ≡ lines_told (take i lines) ++ line ∷ lines_told (drop (i + 1) lines)
lines-at lines i line lt is there =
    lines-split lines (i + 1)
    ∙ (ap (λ (w : List (List ℕ)). w ++ lines_told (drop (i + 1) lines))
    (lines-more lines i line lt is ∙ ap (λ (w : List (List ℕ)). lines_told (take i lines) ++ w) (line-told line there))
    ∙ append_assoc (lines_told (take i lines)) (line ∷ []) (lines_told (drop (i + 1) lines)))

get-seam : {A : Type 0} (xs ys : List A) (x : A) → slice_get (xs ++ x ∷ ys) (length xs) ≡ Some x
get-seam [] ys x = refl
get-seam (w ∷ xs) ys x = get-seam xs ys x

-- its place among them
pub place-of : (lines : List (List ℕ)) (i : ℕ) (line : List ℕ) → i < length lines → line ≡ get_or lines i line
    → has_outcome line ≡ true → slice_get (lines_told lines) (length (lines_told (take i lines))) ≡ Some line
place-of lines i line lt is there =
    ap (λ (w : List (List ℕ)). slice_get w (length (lines_told (take i lines)))) (lines-at lines i line lt is there)
    ∙ get-seam (lines_told (take i lines)) (lines_told (drop (i + 1) lines)) line
