-- The words that are handed in, cut into commands.
-- That a `,` or `.` by itself ends a command is bts(1)'s rule.
-- That the comma at the end of a longer word does, and that empty words and commands are skipped,
-- is this project's own.
use Rattle.std.specs.Prelude.{ℕ, ◌+◌, ◌==◌, ◌||◌, if◌then◌else◌, Bool, true, false, codes}
use Rattle.std.specs.Prelude.{List, [], ◌∷◌, ◌++◌, filter}
use Rattle.std.specs.Prelude.{Option, Some, None, option_map, unwrap_or, is_some}
use Rattle.std.specs.Str.{bytes_eq}

abbrev pub Text : Type 0
Text = List ℕ

-- a word that ends in a comma, without it
abbrev pub without_comma : Text → Option Text
without_comma [] = None
without_comma (c ∷ []) = if c == 44 then Some [] else None
without_comma (c ∷ d ∷ s) = option_map (λ front. c ∷ front) (without_comma (d ∷ s))

abbrev pub is_dot : Text → Bool
is_dot word = bytes_eq word (codes ".")

-- Whether a separator follows the text of a word: the word is `.`, or it ends in a comma.
abbrev pub ends_command : Text → Bool
ends_command word = is_dot word || is_some (without_comma word)

-- the text of a word, without that separator; empty where nothing else is there
abbrev pub text_of : Text → Text
text_of word = if is_dot word then [] else unwrap_or (without_comma word) word

-- a word of a command: its place among all words that were handed in, and its text
pub record Word : Type 0 where
  pub place : ℕ
  pub text : Text

pub data Token : Type 0 where
  said : Word → Token
  separator : Token

-- an empty text is no word
abbrev pub said_at : ℕ → Text → List Token
said_at place [] = []
said_at place (c ∷ s) = said (record { place = place; text = c ∷ s }) ∷ []

-- the tokens of a word at a place
abbrev pub tokens_of : ℕ → Text → List Token
tokens_of place word =
    said_at place (text_of word) ++ (if ends_command word then separator ∷ [] else [])

-- the tokens of words, the first of which is at this place
abbrev pub tokens_from : ℕ → List Text → List Token
tokens_from place [] = []
tokens_from place (word ∷ words) = tokens_of place word ++ tokens_from (place + 1) words

-- the words before the first separator, and the runs of words that follow it
abbrev pub first_run : List Token → List Word
first_run [] = []
first_run (separator ∷ tokens) = []
first_run (said word ∷ tokens) = word ∷ first_run tokens

abbrev pub later_runs : List Token → List (List Word)
later_runs [] = []
later_runs (separator ∷ tokens) = first_run tokens ∷ later_runs tokens
later_runs (said word ∷ tokens) = later_runs tokens

abbrev pub has_words : List Word → Bool
has_words [] = false
has_words (word ∷ words) = true

-- the commands: the runs of words between separators, without the empty ones
abbrev pub commands : List Text → List (List Word)
commands words =
    let tokens = tokens_from 0 words in
    filter has_words (first_run tokens ∷ later_runs tokens)
