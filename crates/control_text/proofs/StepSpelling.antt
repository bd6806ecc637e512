-- Steps of tags, as they are written, are read as they are.
use Rattle.std.proofs.Common.{◌≡◌, ℕ, Bool, true, false, List, [], ◌∷◌, ◌++◌, map, Result, Ok, refl, ap, ◌∙◌}
use Rattle.std.specs.List.{list_any}
use Rattle.bug_record.specs.Tags.{tag_name}
use Rattle.bug_record.specs.declared.tag.Tag.{Tag}
use Rattle.bug_record.specs.declared.tag.Tag.TheVariants as tags
use Rattle.bug_record.specs.declared.command.Command.{Command}
use Rattle.bug_record.specs.declared.command.Command.TheVariants as commands
use Rattle.bug_record.specs.declared.command.TagStep.{TagStep}
use Rattle.bug_record.specs.declared.command.TagStep.TheVariants.{Add, Remove, Clear}
use Rattle.bug_record.specs.declared.command.Refusal.{Refusal}
use Rattle.base_words.specs.declared.named.Named.{Named}
use Rattle.base_words.specs.Bugs.{IsGoodBug}
use Rattle.base_words.specs.Words.{is_blank_or_comma, words, words_with_commas, after_word}
use Rattle.control_grammar.specs.Commands.{and_read, read_bug, tag_step, tag_steps, all_steps, some_steps, tags_command}
use Rattle.control_text.specs.Spelling.{bug_text, step_text, step_words}
use Rattle.control_text.specs.Spaces.{after_spaces}
use Rattle.control_text.proofs.PlainWords.{IsGraphic, IsPlainWord}
use Rattle.control_text.proofs.SpacedLemmas.{first_word-is, ArePlain, AreWhole, whole_plain, words-space, after_word-spaces}
use Rattle.control_text.proofs.SpacedLemmas.{commas-spaces}
use Rattle.control_text.proofs.SpellingLemmas.{bug-back, bug-plain}

-- what is known of the name of a tag
record IsTagName (tag : Tag) : Type 0 where
  graphic : IsGraphic (tag_name tag)
  whole : list_any is_blank_or_comma (tag_name tag) ≡ false
  back : (adds : Bool) → tag_steps adds (tag_name tag) ≡ Ok (tag_step adds tag ∷ [])

tag_word : (tag : Tag) → IsTagName tag
tag_word tags.A11y = record { graphic = refl; whole = refl; back = λ adds. refl }
tag_word _ = record { graphic = refl; whole = refl; back = λ adds. refl }

step_whole : (step : TagStep) → IsPlainWord (step_text step) × (list_any is_blank_or_comma (step_text step) ≡ false)
step_whole (Add tag) = let name = tag_word tag in (record { some = refl; graphic = name.graphic }, name.whole)
step_whole (Remove tag) = let name = tag_word tag in (record { some = refl; graphic = name.graphic }, name.whole)
step_whole Clear = (record { some = refl; graphic = refl }, refl)

all_whole : (steps : List TagStep) → AreWhole (map step_text steps)
all_whole [] = tt
all_whole (step ∷ more) = let first = step_whole step in (first.0, first.1, all_whole more)

steps_whole : (steps : List TagStep) → AreWhole (step_words steps)
steps_whole [] = (record { some = refl; graphic = refl }, refl, tt)
steps_whole (step ∷ more) = all_whole (step ∷ more)

pub steps_plain : (steps : List TagStep) → ArePlain (step_words steps)
steps_plain steps = whole_plain (step_words steps) (steps_whole steps)

-- each step's own sign says what it does
all-back : (adds : Bool) (steps : List TagStep) → all_steps adds (map step_text steps) ≡ Ok steps
all-back adds [] = refl
all-back adds (Add tag ∷ more) =
    let name = tag_word tag in
    ap (λ r. and_read {B = List TagStep} (and_read {B = List TagStep} r (λ steps. Ok steps))
    (λ steps. and_read (all_steps true (map step_text more)) (λ others. Ok (steps ++ others)))) (name.back true)
    ∙ ap (λ r. and_read {B = List TagStep} r (λ others. Ok (Add tag ∷ others))) (all-back true more)
all-back adds (Remove tag ∷ more) =
    let name = tag_word tag in
    ap (λ r. and_read {B = List TagStep} (and_read {B = List TagStep} r (λ steps. Ok steps))
    (λ steps. and_read (all_steps false (map step_text more)) (λ others. Ok (steps ++ others)))) (name.back false)
    ∙ ap (λ r. and_read {B = List TagStep} r (λ others. Ok (Remove tag ∷ others))) (all-back false more)
all-back adds (Clear ∷ more) = ap (λ r. and_read {B = List TagStep} r (λ others. Ok (Clear ∷ others))) (all-back true more)

some-back : (steps : List TagStep) → some_steps (step_words steps) ≡ Ok steps
some-back [] = refl
some-back (step ∷ more) = all-back true (step ∷ more)

pub tags-back : (n : Named) (steps : List TagStep) → IsGoodBug n
    → tags_command (after_spaces (bug_text n ∷ step_words steps)) ≡ Ok (commands.Tags n steps)
tags-back n steps good =
    let word = bug-plain n good in
    let ws = step_words steps in
    let arguments = after_spaces (bug_text n ∷ ws) in
    let of_steps : List (List ℕ) → Named → Result (Command Named) Refusal =
    λ vs bug. and_read (some_steps vs) (λ read. Ok (commands.Tags bug read)) in
    let rest : words_with_commas (after_word arguments) ≡ ws =
    ap words_with_commas (after_word-spaces (bug_text n) ws word) ∙ commas-spaces ws (steps_whole steps) in
    let of_bug = of_steps (words_with_commas (after_word arguments)) in
    ap (λ w. and_read (read_bug w) of_bug)
    (first_word-is arguments (bug_text n) (words (after_spaces ws)) (words-space (bug_text n) ws word))
    ∙ ap (λ r. and_read r of_bug) (bug-back n good)
    ∙ ap (λ vs. of_steps vs n) rest
    ∙ ap (λ r. and_read {B = Command Named} r (λ read. Ok (commands.Tags n read))) (some-back steps)
