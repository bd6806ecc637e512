-- The words of texts that are joined by a separator.
use Rattle.std.proofs.Common.{◌≡◌, ℕ, Bool, true, false, List, [], ◌∷◌, ◌++◌, refl, ap, sym, ◌∙◌, inl, inr, append-nil}
use Rattle.std.specs.List.{flat_map, join_with_byte, onto_first, list_any}
use Rattle.std.proofs.lemmas.Bool.{cases_Bool, false≢true}
use Rattle.base_words.specs.Blanks.{is_blank}
use Rattle.base_words.specs.Words.{words, words_between, has_bytes}
use Rattle.base_words.proofs.WordLemmas.{words-nil, words-separator, words-last, words-more, words-word}

abbrev has_word : List (List ℕ) → Bool
has_word [] = false
has_word (w ∷ ws) = true

has_word-onto : (c : ℕ) (ws : List (List ℕ)) → has_word (onto_first c ws) ≡ true
has_word-onto c [] = refl
has_word-onto c (w ∷ ws) = refl

onto-append : (c : ℕ) (ws vs : List (List ℕ)) → has_word ws ≡ true → onto_first c (ws ++ vs) ≡ onto_first c ws ++ vs
onto-append c [] vs h = absurd (false≢true h)
onto-append c (w ∷ ws) vs h = refl

-- a text that begins with no separator has a word
begins : (p : ℕ → Bool) (c : ℕ) (s : List ℕ) → p c ≡ false → has_word (words_between p (c ∷ s)) ≡ true
begins p c [] e = ap has_word (words-last p c [] e tt)
begins p c (d ∷ t) e = elim (cases_Bool (p d)) [
  | inl f ↦ ap has_word (words-last p c (d ∷ t) e f)
  | inr f ↦ ap has_word (words-more p c d t e f) ∙ has_word-onto c (words_between p (d ∷ t))
]

-- words that are joined go on as those of the rest do
module _ (p : ℕ → Bool) (c : ℕ) (b : List ℕ) where
  after-separator : (x : ℕ) (s : List ℕ) → p x ≡ true → words_between p (s ++ (c ∷ b)) ≡ words_between p s ++ words_between p b
      → words_between p (x ∷ s ++ (c ∷ b)) ≡ words_between p (x ∷ s) ++ words_between p b
  after-separator x s f h =
      words-separator p x (s ++ (c ∷ b)) f ∙ h ∙ sym (ap (λ ws. ws ++ words_between p b) (words-separator p x s f))

  after-word : (x d : ℕ) (t : List ℕ) → p x ≡ false
      → words_between p (d ∷ t ++ (c ∷ b)) ≡ words_between p (d ∷ t) ++ words_between p b
      → words_between p (x ∷ d ∷ t ++ (c ∷ b)) ≡ words_between p (x ∷ d ∷ t) ++ words_between p b
  after-word x d t f h = elim (cases_Bool (p d)) [
    | inl g ↦
        words-last p x (d ∷ t ++ (c ∷ b)) f g ∙ ap (λ ws. (x ∷ []) ∷ ws) h
        ∙ sym (ap (λ ws. ws ++ words_between p b) (words-last p x (d ∷ t) f g))
    | inr g ↦
        words-more p x d (t ++ (c ∷ b)) f g ∙ ap (onto_first x) h
        ∙ onto-append x (words_between p (d ∷ t)) (words_between p b) (begins p d t g)
        ∙ sym (ap (λ ws. ws ++ words_between p b) (words-more p x d t f g))
  ]

  after-last : (x : ℕ) → p c ≡ true → p x ≡ false
      → words_between p (x ∷ c ∷ b) ≡ words_between p (x ∷ []) ++ words_between p b
  after-last x e f =
      words-last p x (c ∷ b) f e ∙ ap (λ ws. (x ∷ []) ∷ ws) (words-separator p c b e)
      ∙ sym (ap (λ ws. ws ++ words_between p b) (words-last p x [] f tt ∙ ap (λ ws. (x ∷ []) ∷ ws) (words-nil p)))

  pub words-joined : (a : List ℕ) → p c ≡ true → words_between p (a ++ (c ∷ b)) ≡ words_between p a ++ words_between p b
  words-joined [] e = words-separator p c b e ∙ sym (ap (λ ws. ws ++ words_between p b) (words-nil p))
  words-joined (x ∷ []) e = elim (cases_Bool (p x)) [
    | inl f ↦ after-separator x [] f (words-joined [] e)
    | inr f ↦ after-last x e f
  ]
  words-joined (x ∷ d ∷ t) e = elim (cases_Bool (p x)) [
    | inl f ↦ after-separator x (d ∷ t) f (words-joined (d ∷ t) e)
    | inr f ↦ after-word x d t f (words-joined (d ∷ t) e)
  ]

-- the words of texts that are joined by spaces
pub words-of_joined : (texts : List (List ℕ)) → words (join_with_byte 32 texts) ≡ flat_map words texts
words-of_joined [] = words-nil is_blank
words-of_joined (text ∷ []) = sym (append-nil (words text))
words-of_joined (text ∷ next ∷ texts) =
    words-joined is_blank 32 (join_with_byte 32 (next ∷ texts)) text refl
    ∙ ap (λ ws. words text ++ ws) (words-of_joined (next ∷ texts))

pub words-of_one : (text : List ℕ) → has_bytes text ≡ true → list_any is_blank text ≡ false → words text ≡ text ∷ []
words-of_one text some whole =
    ap words (sym (append-nil text)) ∙ words-word is_blank text [] some whole tt
    ∙ ap (λ ws. text ∷ ws) (words-nil is_blank)
