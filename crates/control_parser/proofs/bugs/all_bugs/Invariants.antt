use Rattle.std.proofs.Common.{◌≡◌, ◌++◌, Ok, length}
use denote.Text.{Utf8}
use denote.Shadow.{shadow}
use Rattle.base_words.specs.Words.{words_between, is_separator}
use Rattle.control_grammar.specs.Commands.{and_read, read_bug, each_word}
use Rattle.control_parser.proofs.bugs.all_bugs.Given as goal

abbrev pub invariant-loop-word : goal.invariant-loop-word
invariant-loop-word l =
    shadow (Utf8 l.rest)
    × (and_read (each_word read_bug (words_between (is_separator l.separators) l.rest)) (λ more. Ok (l.bugs ++ more))
    ≡ each_word read_bug (words_between (is_separator l.separators) l.text))

abbrev pub decreases-loop-word : goal.decreases-loop-word
decreases-loop-word l = length l.rest
