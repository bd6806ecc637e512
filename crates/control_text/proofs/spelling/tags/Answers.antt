use Rattle.std.proofs.Common.{rules, arith, ◌≡◌, ◌==◌, false, List, [], ◌∷◌, length, map, drop, string_bytes, codes, refl, ap, sym, ◌∙◌}
use Rattle.std.proofs.lemmas.Grind.{common_steps}
use Rattle.std.proofs.lemmas.List.{drop_all}
use Rattle.bug_record.specs.declared.command.TagStep.{TagStep}
use Rattle.control_text.specs.Spelling.{bug_text, step_text, step_words, joined_by_blanks}
use Rattle.control_text.proofs.SpacedLemmas.{joined_last}
use Rattle.control_text.proofs.spelling.tags.Goals as goal

some_words : (steps : List TagStep) → (length steps == 0) ≡ false → map step_text steps ≡ step_words steps
some_words [] h = absurd (cc)
some_words (step ∷ more) h = refl

pub returns : goal.returns
returns c =
    let steps = c.args.steps.now in
    let bug = bug_text c.args.bug in
    joined_last (string_bytes c.loop-step.line) (codes "tags") (bug ∷ map step_text steps)
    (map step_text (drop c.loop-step.step-index steps))
    c.loop-step.invariant (ap (map step_text) (drop_all c.loop-step.step-index steps c.loop-step-test.false))
    ∙ ap (λ ws. joined_by_blanks (codes "tags" ∷ bug ∷ ws)) (some_words steps (sym c.is_empty.ensures ∙ c.if-is_empty.false))

pub returns-in_err-line : goal.returns-in_err-line
returns-in_err-line c = search rules

pub returns-in_err-push_step : goal.returns-in_err-push_step
returns-in_err-push_step c = search rules

pub loop-step-preserved : goal.loop-step-preserved
loop-step-preserved c = grind (arith, common_steps)
