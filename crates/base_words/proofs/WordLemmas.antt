-- How the words of a text between separators go on with its bytes.
use Rattle.std.proofs.Common.{◌≡◌, ℕ, ◌+◌, ◌<◌, Bool, List, [], ◌∷◌, ◌++◌, true, false, not, refl, ap, sym, ◌∙◌, inl, inr, take}
use Rattle.std.proofs.Common.{drop, subst, length, arith}
use Rattle.std.specs.Prelude.{filter}
use Rattle.std.specs.List.{slice_split, onto_first, list_any, list_all, prefix_len, position_or_len, before_first}
use Rattle.std.proofs.lemmas.Bool.{cases_Bool, or_parts, or_from, and_parts, not_from_true, not_from_false, cond-true, cond-false}
use Rattle.std.proofs.lemmas.Bool.{false≢true}
use Rattle.std.proofs.lemmas.List.{take-append-drop, length-drop}
use Rattle.std.proofs.lemmas.List.Splits.{slice_split-cons_yes, slice_split-cons_no}
use Rattle.std.proofs.Math.Numerals.{one-add}
use Rattle.base_words.specs.Blanks.{is_blank, begins_blank}
use Rattle.base_words.specs.Words.{has_bytes, words_between, AreSeparators, EndsWord, without_first, first_between, after_between}

pub words-nil : (p : ℕ → Bool) → words_between p [] ≡ []
unfolding words_between
words-nil p = refl

-- a separator at the beginning is passed over
pub words-separator : (p : ℕ → Bool) (c : ℕ) (s : List ℕ) → p c ≡ true → words_between p (c ∷ s) ≡ words_between p s
unfolding words_between
words-separator p c s e = ap (filter has_bytes) (slice_split-cons_yes p c s e)

-- a word of one byte
pub words-last : (p : ℕ → Bool) (c : ℕ) (s : List ℕ) → p c ≡ false → EndsWord p s
    → words_between p (c ∷ s) ≡ (c ∷ []) ∷ words_between p s
unfolding words_between
words-last p c [] e ends = ap (filter has_bytes) (slice_split-cons_no p c [] e)
words-last p c (d ∷ t) e ends =
    let rest : slice_split p (d ∷ t) ≡ [] ∷ slice_split p t = slice_split-cons_yes p d t ends in
    ap (filter has_bytes) (slice_split-cons_no p c (d ∷ t) e ∙ ap (onto_first c) rest)
    ∙ ap (λ r. (c ∷ []) ∷ filter has_bytes r) (sym rest)

filter-onto_first : (c d : ℕ) (parts : List (List ℕ))
    → filter has_bytes (onto_first c (onto_first d parts)) ≡ onto_first c (filter has_bytes (onto_first d parts))
filter-onto_first c d [] = refl
filter-onto_first c d (part ∷ parts) = refl

-- the first word goes on
pub words-more : (p : ℕ → Bool) (c d : ℕ) (t : List ℕ) → p c ≡ false → p d ≡ false
    → words_between p (c ∷ d ∷ t) ≡ onto_first c (words_between p (d ∷ t))
unfolding words_between
words-more p c d t e f =
    let rest = slice_split-cons_no p d t f in
    ap (filter has_bytes) (slice_split-cons_no p c (d ∷ t) e ∙ ap (onto_first c) rest)
    ∙ filter-onto_first c d (slice_split p t)
    ∙ ap (λ r. onto_first c (filter has_bytes r)) (sym rest)

-- separators at the beginning are passed over
pub words-separators : (p : ℕ → Bool) (gap t : List ℕ) → AreSeparators p gap → words_between p (gap ++ t) ≡ words_between p t
words-separators p [] t h = refl
words-separators p (c ∷ gap) t h =
    let q = and_parts (p c) (list_all p gap) h in
    words-separator p c (gap ++ t) q.0 ∙ words-separators p gap t q.1

-- the first word
pub words-word : (p : ℕ → Bool) (word rest : List ℕ) → has_bytes word ≡ true → list_any p word ≡ false → EndsWord p rest
    → words_between p (word ++ rest) ≡ word ∷ words_between p rest
words-word p [] rest some whole ends = absurd (false≢true some)
words-word p (c ∷ []) rest some whole ends = words-last p c rest (or_parts (p c) false whole).0 ends
words-word p (c ∷ d ∷ word) rest some whole ends =
    let h = or_parts (p c) (list_any p (d ∷ word)) whole in
    let k = or_parts (p d) (list_any p word) h.1 in
    words-more p c d (word ++ rest) h.0 k.0 ∙ ap (onto_first c) (words-word p (d ∷ word) rest refl h.1 ends)

drop_more_of : (n c : ℕ) (s : List ℕ) → drop (1 + n) (c ∷ s) ≡ drop n s
drop_more_of n c s = rw one-add refl

take_more_of : (n c : ℕ) (s : List ℕ) → take (1 + n) (c ∷ s) ≡ c ∷ take n s
take_more_of n c s = rw one-add refl

-- a text without the separators at its beginning
pub without_first-separator : (p : ℕ → Bool) (c : ℕ) (s : List ℕ) → p c ≡ true → without_first p (c ∷ s) ≡ without_first p s
without_first-separator p c s e = ap (λ n. drop n (c ∷ s)) (cond-true (p c) _ _ e) ∙ drop_more_of (prefix_len p s) c s

without_first-other : (p : ℕ → Bool) (c : ℕ) (s : List ℕ) → p c ≡ false → without_first p (c ∷ s) ≡ c ∷ s
without_first-other p c s e = ap (λ n. drop n (c ∷ s)) (cond-false (p c) _ _ e)

-- it has the same words, and begins with no separator
pub words-without_first : (p : ℕ → Bool) (s : List ℕ) → words_between p (without_first p s) ≡ words_between p s
words-without_first p [] = refl
words-without_first p (c ∷ s) =
    elim (cases_Bool (p c)) [
      | inl e ↦ ap (words_between p) (without_first-separator p c s e) ∙ words-without_first p s ∙ sym (words-separator p c s e)
      | inr e ↦ ap (words_between p) (without_first-other p c s e)
    ]

abbrev begins_with : (ℕ → Bool) → List ℕ → Bool
begins_with p [] = false
begins_with p (c ∷ s) = p c

begins_with-without_first : (p : ℕ → Bool) (s : List ℕ) → begins_with p (without_first p s) ≡ false
begins_with-without_first p [] = refl
begins_with-without_first p (c ∷ s) =
    elim (cases_Bool (p c)) [
      | inl e ↦ ap (begins_with p) (without_first-separator p c s e) ∙ begins_with-without_first p s
      | inr e ↦ ap (begins_with p) (without_first-other p c s e) ∙ e
    ]

pub begins_blank-without_first : (s : List ℕ) → begins_blank (without_first is_blank s) ≡ false
begins_blank-without_first [] = refl
begins_blank-without_first (c ∷ s) =
    elim (cases_Bool (is_blank c)) [
      | inl e ↦ ap begins_blank (without_first-separator is_blank c s e) ∙ begins_blank-without_first s
      | inr e ↦ ap begins_blank (without_first-other is_blank c s e) ∙ e
    ]

-- where a separator stands first
place-here : (p : ℕ → Bool) (c : ℕ) (s : List ℕ) → p c ≡ true → position_or_len p (c ∷ s) ≡ 0
place-here p c s e = cond-false (not (p c)) (1 + position_or_len p s) 0 (not_from_true _ e)

place-later : (p : ℕ → Bool) (c : ℕ) (s : List ℕ) → p c ≡ false → position_or_len p (c ∷ s) ≡ 1 + position_or_len p s
place-later p c s e = cond-true (not (p c)) (1 + position_or_len p s) 0 (not_from_false _ e)

-- a text up to its first separator, and from there on
ends_word-drop : (p : ℕ → Bool) (s : List ℕ) → EndsWord p (drop (position_or_len p s) s)
ends_word-drop p [] = tt
ends_word-drop p (c ∷ s) =
    elim (cases_Bool (p c)) [
      | inl e ↦
          let P : ℕ → Type 0 = λ n. EndsWord p (drop n (c ∷ s)) in
          subst P (sym (place-here p c s e)) e
      | inr e ↦
          let P : List ℕ → Type 0 = EndsWord p in
          subst P (sym (ap (λ n. drop n (c ∷ s)) (place-later p c s e) ∙ drop_more_of (position_or_len p s) c s))
          (ends_word-drop p s)
    ]

none-before : (p : ℕ → Bool) (s : List ℕ) → list_any p (before_first p s) ≡ false
none-before p [] = refl
none-before p (c ∷ s) =
    elim (cases_Bool (p c)) [
      | inl e ↦ ap (λ n. list_any p (take n (c ∷ s))) (place-here p c s e)
      | inr e ↦
          ap (list_any p) (ap (λ n. take n (c ∷ s)) (place-later p c s e) ∙ take_more_of (position_or_len p s) c s)
          ∙ or_from (p c) _ e (none-before p s)
    ]

-- a text that begins with no separator, and has a word or none at its beginning
word-first : (p : ℕ → Bool) (s : List ℕ) → has_bytes (before_first p s) ≡ true
    → words_between p s ≡ before_first p s ∷ words_between p (drop (position_or_len p s) s)
word-first p s some =
    let n = position_or_len p s in
    ap (words_between p) (sym (take-append-drop n s))
    ∙ words-word p (take n s) (drop n s) some (none-before p s) (ends_word-drop p s)

begins-word : (p : ℕ → Bool) (c : ℕ) (s : List ℕ) → p c ≡ false → has_bytes (before_first p (c ∷ s)) ≡ true
begins-word p c s e =
    ap (λ n. has_bytes (take n (c ∷ s))) (place-later p c s e) ∙ ap has_bytes (take_more_of (position_or_len p s) c s)

word-none : (p : ℕ → Bool) (s : List ℕ) → begins_with p s ≡ false → has_bytes (before_first p s) ≡ false → words_between p s ≡ []
word-none p [] first none = words-nil p
word-none p (c ∷ s) first none = absurd (false≢true (sym none ∙ begins-word p c s first))

word-shorter : (p : ℕ → Bool) (s : List ℕ) → begins_with p s ≡ false → has_bytes (before_first p s) ≡ true
    → length (drop (position_or_len p s) s) < length s
word-shorter p [] first some = absurd (false≢true some)
word-shorter p (c ∷ s) first some =
    let less = length-drop (position_or_len p s) s in
    let is : length (drop (position_or_len p (c ∷ s)) (c ∷ s)) ≡ length (drop (position_or_len p s) s)
    = ap (λ n. length (drop n (c ∷ s))) (place-later p c s first) ∙ ap length (drop_more_of (position_or_len p s) c s) in
    omega arith

-- the first word of any text, if it has one, and what follows it
pub words-first : (p : ℕ → Bool) (s word rest : List ℕ) → word ≡ first_between p s → rest ≡ after_between p s
    → has_bytes word ≡ true → words_between p s ≡ word ∷ words_between p rest
words-first p s word rest first after some =
    sym (words-without_first p s)
    ∙ word-first p (without_first p s) (sym (ap has_bytes first) ∙ some)
    ∙ (λ i. sym first i ∷ words_between p (sym after i))

pub words-none : (p : ℕ → Bool) (s word : List ℕ) → word ≡ first_between p s → has_bytes word ≡ false → words_between p s ≡ []
words-none p s word first none =
    sym (words-without_first p s)
    ∙ word-none p (without_first p s) (begins_with-without_first p s) (sym (ap has_bytes first) ∙ none)

pub rest-shorter : (p : ℕ → Bool) (s word rest : List ℕ) → word ≡ first_between p s → rest ≡ after_between p s
    → has_bytes word ≡ true → length rest < length s
rest-shorter p s word rest first after some =
    let t = without_first p s in
    let less = word-shorter p t (begins_with-without_first p s) (sym (ap has_bytes first) ∙ some) in
    let part = length-drop (prefix_len p s) s in
    let same : length rest ≡ length (drop (position_or_len p t) t) = ap length after in
    omega arith
