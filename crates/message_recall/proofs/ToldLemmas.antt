-- Outcomes beside the lines that have one.
use Rattle.std.proofs.Common.{◌≡◌, ◌≤◌, ◌<◌, ◌+◌, ℕ, true, false, cond, List, [], ◌∷◌, ◌++◌, Some, refl, sym, ap, ◌∙◌, arith}
use Rattle.std.proofs.Common.{take, drop, length, get_or}
use Rattle.std.specs.Prelude.{suc, zero, zip, slice_get}
use Rattle.std.proofs.lemmas.List.{append-nil, take_more, take-append-drop}
use Rattle.std.proofs.lemmas.List.Elements.{filter-append}
use Rattle.std.proofs.lemmas.Option.{same_Some}
use Rattle.bug_record.specs.declared.outcome.Outcome.{Outcome}
use Rattle.store_contract.specs.Kept.{has_outcome, lines_told, told}

-- ---- zips

pub zip-none : {A B : Type 0} (xs : List A) → zip {X = B} xs [] ≡ []
zip-none [] = refl
zip-none (x ∷ xs) = refl

pub zip-append : {A B : Type 0} (xs ys : List A) (zs : List B) → length xs ≤ length zs
    → zip (xs ++ ys) zs ≡ zip xs zs ++ zip ys (drop (length xs) zs)
zip-append [] ys zs h = refl
zip-append (x ∷ xs) ys [] h = absurd (omega arith)
zip-append (x ∷ xs) ys (z ∷ zs) h = ap (λ w. (x, z) ∷ w) (zip-append xs ys zs (omega arith))

pub zip-all : {A B : Type 0} (xs ys : List A) (zs : List B) → length zs ≤ length xs → zip (xs ++ ys) zs ≡ zip xs zs
zip-all [] ys [] h = zip-none ys
zip-all [] ys (z ∷ zs) h = absurd (omega arith)
zip-all (x ∷ xs) ys [] h = refl
zip-all (x ∷ xs) ys (z ∷ zs) h = ap (λ w. (x, z) ∷ w) (zip-all xs ys zs (omega arith))

pub zip-push : {A B : Type 0} (xs : List A) (zs : List B) (x : A) (z : B) → slice_get zs (length xs) ≡ Some z
    → zip (xs ++ x ∷ []) zs ≡ zip xs zs ++ (x, z) ∷ []
zip-push [] [] x z e = absurd (cc)
zip-push [] (w ∷ zs) x z e = ap (λ v. (x, v) ∷ []) (same_Some _ _ e)
zip-push (y ∷ xs) [] x z e = absurd (cc)
zip-push (y ∷ xs) (w ∷ zs) x z e = ap (λ v. (y, w) ∷ v) (zip-push xs zs x z e)

pub zip-take : {A B : Type 0} (xs : List A) (zs : List B) (n : ℕ) → length xs ≤ n → zip xs (take n zs) ≡ zip xs zs
zip-take [] zs n h = refl
zip-take (x ∷ xs) zs zero h = absurd (omega arith)
zip-take (x ∷ xs) [] (suc n) h = refl
zip-take (x ∷ xs) (z ∷ zs) (suc n) h = ap (λ w. (x, z) ∷ w) (zip-take xs zs n (omega arith))

pub zip-length : {A B : Type 0} (xs : List A) (zs : List B) → length xs ≤ length zs → length (zip xs zs) ≡ length xs
zip-length [] zs h = refl
zip-length (x ∷ xs) [] h = absurd (omega arith)
zip-length (x ∷ xs) (z ∷ zs) h = ap suc (zip-length xs zs (omega arith))

-- ---- lines that have an outcome

pub lines-more : (lines : List (List ℕ)) (i : ℕ) (line : List ℕ) → i < length lines → line ≡ get_or lines i line
    → lines_told (take (i + 1) lines) ≡ lines_told (take i lines) ++ lines_told (line ∷ [])
lines-more lines i line lt is =
    ap lines_told (take_more lines i line lt ∙ ap (λ (x : List ℕ). take i lines ++ x ∷ []) (sym is))
    ∙ filter-append has_outcome (take i lines) (line ∷ [])

pub lines-split : (lines : List (List ℕ)) (i : ℕ) → lines_told lines ≡ lines_told (take i lines) ++ lines_told (drop i lines)
lines-split lines i = ap lines_told (sym (take-append-drop i lines)) ∙ filter-append has_outcome (take i lines) (drop i lines)

pub line-told : (line : List ℕ) → has_outcome line ≡ true → lines_told (line ∷ []) ≡ line ∷ []
line-told line e = ap (λ t. cond t (line ∷ []) []) e

pub line-untold : (line : List ℕ) → has_outcome line ≡ false → lines_told (line ∷ []) ≡ []
line-untold line e = ap (λ t. cond t (line ∷ []) []) e

pub one_told : (line : List ℕ) → length (lines_told (line ∷ [])) ≤ 1
one_told line = elim (has_outcome line) as (λ t. length (cond t (line ∷ []) []) ≤ 1) [ true ↦ omega arith | false ↦ omega arith ]

-- one line more, with its outcome
pub told-more : (kept : List Outcome) (xs : List (List ℕ)) (line : List ℕ) (outcome : Outcome)
    → slice_get kept (length xs) ≡ Some outcome
    → zip (xs ++ lines_told (line ∷ [])) kept ≡ zip xs kept ++ told (line ∷ []) (outcome ∷ [])
told-more kept xs line outcome e =
    elim (has_outcome line) as (λ t. zip (xs ++ cond t (line ∷ []) []) kept ≡ zip xs kept ++ zip (cond t (line ∷ []) []) (outcome ∷ []))
    [ true ↦ zip-push xs kept line outcome e | false ↦ ap (λ w. zip w kept) (append-nil xs) ∙ sym (append-nil (zip xs kept)) ]

-- with as many outcomes as these lines
pub told-taken : (lines : List (List ℕ)) (kept : List Outcome) (i : ℕ) → length kept ≤ length (lines_told (take i lines))
    → told (take i lines) kept ≡ told lines kept
told-taken lines kept i h =
    sym (ap (λ (w : List (List ℕ)). zip w kept) (lines-split lines i)
    ∙ zip-all (lines_told (take i lines)) (lines_told (drop i lines)) kept h)
