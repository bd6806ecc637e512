use Rattle.std.proofs.Common.{◌≡◌, ◌++◌, Ok, length}
use denote.Text.{Utf8}
use denote.Shadow.{shadow}
use Rattle.base_words.specs.Words.{words}
use Rattle.control_grammar.specs.Commands.{and_read, read_name, each_word}
use Rattle.control_parser.proofs.clones.all_names.Given as goal

abbrev pub invariant-loop-word : goal.invariant-loop-word
invariant-loop-word l =
    shadow (Utf8 l.rest)
    × (and_read (each_word read_name (words l.rest)) (λ more. Ok (l.names ++ more)) ≡ each_word read_name (words l.text))

abbrev pub decreases-loop-word : goal.decreases-loop-word
decreases-loop-word l = length l.rest
