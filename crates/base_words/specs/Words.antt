-- The words of a text: the maximal runs of bytes between separators, which are blanks, or blanks
-- and commas.
use Rattle.std.specs.Prelude.{ℕ, ◌≡◌, ◌==◌, ◌||◌, Bool, true, false, ◌-◌, List, [], ◌∷◌, ◌++◌, length, take, drop, filter, IsTrue}
use Rattle.std.specs.Prelude.{IsFalse, ⊤}
use Rattle.std.specs.List.{slice_split, list_any, list_all, prefix_len, suffix_len, position_or_len, before_first}
use Rattle.base_words.specs.Blanks.{is_blank}
use Rattle.base_words.specs.declared.words.Separators.{Separators}
use Rattle.base_words.specs.declared.words.Separators.TheVariants.{Blanks, BlanksAndCommas}

abbrev pub has_bytes : List ℕ → Bool
has_bytes [] = false
has_bytes (c ∷ s) = true

-- the pieces between the bytes of a kind, without the empty ones
unfoldable pub words_between : (ℕ → Bool) → List ℕ → List (List ℕ)
words_between separates text = filter has_bytes (slice_split separates text)

-- the words between blanks
abbrev pub words : List ℕ → List (List ℕ)
words text = words_between is_blank text

abbrev pub is_blank_or_comma : ℕ → Bool
is_blank_or_comma c = is_blank c || c == 44

-- the same where commas are blanks too.
-- This project's own rule.
abbrev pub words_with_commas : List ℕ → List (List ℕ)
words_with_commas text = words_between is_blank_or_comma text

-- the test of each kind of separators
abbrev pub is_separator : Separators → ℕ → Bool
is_separator Blanks = is_blank
is_separator BlanksAndCommas = is_blank_or_comma

-- separators alone, or nothing
abbrev pub AreSeparators : (ℕ → Bool) → List ℕ → Type 0
AreSeparators separates gap = IsTrue (list_all separates gap)

-- a word ends before a separator, or where the text ends
abbrev pub EndsWord : (ℕ → Bool) → List ℕ → Type 0
EndsWord separates [] = ⊤
EndsWord separates (c ∷ s) = IsTrue (separates c)

-- The text is separators or nothing, then this word, then the rest: the word has bytes, none of
-- them a separator, and ends there.
pub record IsFirstWord (separates : ℕ → Bool) (text word rest : List ℕ) : Type 0 where
  pub gap : List ℕ
  pub text_is : text ≡ gap ++ (word ++ rest)
  pub separators : AreSeparators separates gap
  pub some : IsTrue (has_bytes word)
  pub whole : IsFalse (list_any separates word)
  pub end : EndsWord separates rest

-- The text is these words, with separators before, between and after them, and at least one between
-- two.
abbrev pub IsCutInto : (ℕ → Bool) → List ℕ → List (List ℕ) → Type 0
IsCutInto separates text [] = AreSeparators separates text
IsCutInto separates text (word ∷ more) = (rest : List ℕ) × IsFirstWord separates text word rest × IsCutInto separates rest more

-- a text without the separators at its beginning
abbrev pub without_first : (ℕ → Bool) → List ℕ → List ℕ
without_first separates s = drop (prefix_len separates s) s

-- a text without the blanks at its end
abbrev pub without_last_blanks : List ℕ → List ℕ
without_last_blanks s = take (length s - suffix_len is_blank s) s

-- a text without outer blanks
abbrev pub trimmed : List ℕ → List ℕ
trimmed s = without_last_blanks (without_first is_blank s)

-- a text's first word, which is empty where it has none, and what follows it
abbrev pub first_between : (ℕ → Bool) → List ℕ → List ℕ
first_between separates s = before_first separates (without_first separates s)

abbrev pub after_between : (ℕ → Bool) → List ℕ → List ℕ
after_between separates s = drop (position_or_len separates (without_first separates s)) (without_first separates s)

-- the same between blanks
abbrev pub first_word : List ℕ → List ℕ
first_word s = first_between is_blank s

abbrev pub after_word : List ℕ → List ℕ
after_word s = after_between is_blank s
