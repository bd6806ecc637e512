-- The words of the program's command line, cut in two: options, then a command.
-- This project's own rule.
use Rattle.std.specs.Prelude.{ℕ, ◌==◌, Bool, false, List, [], ◌∷◌, take, drop, codes}
use Rattle.std.specs.List.{prefix_len, list_any}
use Rattle.std.specs.Str.{bytes_eq}

abbrev pub Text : Type 0
Text = List ℕ

-- a word that begins with `-`
abbrev pub is_option : Text → Bool
is_option [] = false
is_option (c ∷ s) = c == 45

-- the options are the leading words that begin with `-`
abbrev pub option_words : List Text → List Text
option_words words = take (prefix_len is_option words) words

-- the command is the rest
abbrev pub command_words : List Text → List Text
command_words words = drop (prefix_len is_option words) words

abbrev pub is_lone_dash : Text → Bool
is_lone_dash word = bytes_eq word (codes "-")

abbrev pub has_lone_dash : List Text → Bool
has_lone_dash words = list_any is_lone_dash words
