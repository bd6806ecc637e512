use Rattle.std.proofs.Common.{◌≡◌, ◌++◌, Ok, length}
use denote.Text.{Utf8}
use denote.Shadow.{shadow}
use Rattle.base_words.specs.Words.{words_with_commas}
use Rattle.control_grammar.specs.Commands.{and_read, read_package, each_word}
use Rattle.control_parser.proofs.affects.push_names.Given as goal

abbrev pub invariant-loop-word : goal.invariant-loop-word
invariant-loop-word l =
    shadow (Utf8 l.left)
    × (and_read (each_word read_package (words_with_commas l.left)) (λ more. Ok (l.names ++ more))
    ≡ and_read (each_word read_package (words_with_commas l.text)) (λ more. Ok (l.fn.names ++ more)))

abbrev pub decreases-loop-word : goal.decreases-loop-word
decreases-loop-word l = length l.left
