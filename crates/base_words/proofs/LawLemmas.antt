-- The words of a text are the one way to cut it at its separators.
use Rattle.std.proofs.Common.{◌≡◌, ℕ, Bool, List, [], ◌∷◌, ◌++◌, true, false, refl, ap, sym, ◌∙◌, inl, inr, subst, append-nil}
use Rattle.std.specs.List.{onto_first, list_any, list_all}
use Rattle.std.proofs.lemmas.Bool.{cases_Bool, or_from, and_parts, and_from, false≢true}
use Rattle.base_words.specs.Words.{words_between, AreSeparators, EndsWord, IsFirstWord, IsCutInto}
use Rattle.base_words.proofs.WordLemmas.{words-nil, words-separator, words-last, words-more, words-separators, words-word}

pub words-cut_into : (p : ℕ → Bool) (text : List ℕ) (ws : List (List ℕ)) → IsCutInto p text ws → ws ≡ words_between p text
words-cut_into p text [] h = sym (ap (words_between p) (sym (append-nil text)) ∙ words-separators p text [] h ∙ words-nil p)
words-cut_into p text (word ∷ more) (rest, first, cut) =
    ap (λ ws. word ∷ ws) (words-cut_into p rest more cut)
    ∙ sym (ap (words_between p) first.text_is ∙ words-separators p first.gap (word ++ rest) first.separators
    ∙ words-word p word rest first.some first.whole first.end)

-- one more separator at the beginning
cut_into-separator : (p : ℕ → Bool) (c : ℕ) (s : List ℕ) (ws : List (List ℕ)) → p c ≡ true → IsCutInto p s ws
    → IsCutInto p (c ∷ s) ws
cut_into-separator p c s [] e h = and_from (p c) (list_all p s) e h
cut_into-separator p c s (word ∷ more) e (rest, first, cut) =
    let longer : IsFirstWord p (c ∷ s) word rest = record {
      gap = c ∷ first.gap;
      text_is = ap (λ t. c ∷ t) first.text_is;
      separators = and_from (p c) (list_all p first.gap) e first.separators;
      some = first.some;
      whole = first.whole;
      end = first.end;
    } in
    (rest, longer, cut)

-- a word of one byte at the beginning
cut_into-last : (p : ℕ → Bool) (c : ℕ) (s : List ℕ) (ws : List (List ℕ)) → p c ≡ false → EndsWord p s → IsCutInto p s ws
    → IsCutInto p (c ∷ s) ((c ∷ []) ∷ ws)
cut_into-last p c s ws e end cut =
    let first : IsFirstWord p (c ∷ s) (c ∷ []) s = record {
      gap = [];
      text_is = refl;
      separators = refl;
      some = refl;
      whole = or_from (p c) false e refl;
      end = end;
    } in
    (s, first, cut)

-- one more byte of the first word
first_word-more : (p : ℕ → Bool) (c d : ℕ) (t word rest gap : List ℕ) → p c ≡ false → p d ≡ false
    → (d ∷ t) ≡ gap ++ (word ++ rest) → AreSeparators p gap → list_any p word ≡ false → EndsWord p rest
    → IsFirstWord p (c ∷ d ∷ t) (c ∷ word) rest
first_word-more p c d t word rest [] e f is separators whole end = record {
  gap = [];
  text_is = ap (λ u. c ∷ u) is;
  separators = refl;
  some = refl;
  whole = or_from (p c) (list_any p word) e whole;
  end = end;
}
first_word-more p c d t word rest (b ∷ gap) e f is separators whole end =
    let same : d ≡ b = cc in
    absurd (false≢true (sym f ∙ ap p same ∙ (and_parts (p b) (list_all p gap) separators).0))

cut_into-more : (p : ℕ → Bool) (c d : ℕ) (t : List ℕ) (ws : List (List ℕ)) → p c ≡ false → p d ≡ false → IsCutInto p (d ∷ t) ws
    → IsCutInto p (c ∷ d ∷ t) (onto_first c ws)
cut_into-more p c d t [] e f h = absurd (false≢true (sym f ∙ (and_parts (p d) (list_all p t) h).0))
cut_into-more p c d t (word ∷ more) e f (rest, first, cut) =
    (rest, first_word-more p c d t word rest first.gap e f first.text_is first.separators first.whole first.end, cut)

cut_into-word : (p : ℕ → Bool) (c : ℕ) (s : List ℕ) → p c ≡ false → IsCutInto p s (words_between p s)
    → IsCutInto p (c ∷ s) (words_between p (c ∷ s))
cut_into-word p c [] e cut =
    let P : List (List ℕ) → Type 0 = IsCutInto p (c ∷ []) in
    subst P (sym (words-last p c [] e tt)) (cut_into-last p c [] (words_between p []) e tt cut)
cut_into-word p c (d ∷ t) e cut =
    let P : List (List ℕ) → Type 0 = IsCutInto p (c ∷ d ∷ t) in
    elim (cases_Bool (p d)) [
      | inl f ↦ subst P (sym (words-last p c (d ∷ t) e f)) (cut_into-last p c (d ∷ t) (words_between p (d ∷ t)) e f cut)
      | inr f ↦ subst P (sym (words-more p c d t e f)) (cut_into-more p c d t (words_between p (d ∷ t)) e f cut)
    ]

pub cut_into-words : (p : ℕ → Bool) (text : List ℕ) → IsCutInto p text (words_between p text)
cut_into-words p [] =
    let P : List (List ℕ) → Type 0 = IsCutInto p [] in
    subst P (sym (words-nil p)) refl
cut_into-words p (c ∷ s) =
    let cut = cut_into-words p s in
    let P : List (List ℕ) → Type 0 = IsCutInto p (c ∷ s) in
    elim (cases_Bool (p c)) [
      | inl e ↦ subst P (sym (words-separator p c s e)) (cut_into-separator p c s (words_between p s) e cut)
      | inr e ↦ cut_into-word p c s e cut
    ]
