use Rattle.std.proofs.Common.{◌≡◌, ◌++◌, true, Ok, length}
use denote.Text.{Utf8}
use denote.Shadow.{shadow}
use Rattle.base_words.specs.Words.{words_with_commas}
use Rattle.control_grammar.specs.Commands.{and_read, all_steps}
use Rattle.control_parser.proofs.tags.all_steps.Given as goal

abbrev pub invariant-loop-word : goal.invariant-loop-word
invariant-loop-word l =
    shadow (Utf8 l.rest)
    × (and_read (all_steps l.adds (words_with_commas l.rest)) (λ more. Ok (l.steps ++ more))
    ≡ all_steps true (words_with_commas l.text))

abbrev pub decreases-loop-word : goal.decreases-loop-word
decreases-loop-word l = length l.rest
