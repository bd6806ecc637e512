use Rattle.std.proofs.Common.{rules, List, ℕ, false, ◌≡◌, sym, ◌∙◌, subst, Result}
use Rattle.std.specs.Prelude.{IfOk}
use Rattle.std.specs.List.{list_any}
use Rattle.base_words.specs.Blanks.{is_control}
use Rattle.bug_record.specs.declared.command.Command.{Command}
use Rattle.bug_record.specs.declared.command.Refusal.{Refusal}
use Rattle.base_words.specs.declared.named.Named.{Named}
use Rattle.control_grammar.specs.WellFormed.{IsWellFormed}
use Rattle.control_grammar.specs.Lines.{reading}
use Rattle.control_parser.proofs.ReadingLemmas.{command_of-good, clean_after_word}
use Rattle.control_parser.proofs.reading.read_line.Goals as goal

pub returns-clause-well_formed : goal.returns-clause-well_formed
returns-clause-well_formed c =
    let clean = clean_after_word c.args.text.now (sym c.has_control.ensures ∙ c.if-has_control.false) in
    let rest = subst (λ (s : List ℕ). list_any is_control s ≡ false) (sym c.next_word.ensures.rest) clean in
    subst (λ (r : Result (Command Named) Refusal). IfOk r IsWellFormed) c.in_ok-read_command.ensures
    (command_of-good c.in-Some.command c.next_word.result.1.now rest)

pub returns-then-is_empty-clause-memory : goal.returns-then-is_empty-clause-memory
returns-then-is_empty-clause-memory c = tt

pub returns-in_default-clause-exact : goal.returns-in_default-clause-exact
unfolding reading
returns-in_default-clause-exact c = search rules

pub returns-then-has_control-clause-exact : goal.returns-then-has_control-clause-exact
unfolding reading
returns-then-has_control-clause-exact c = search rules
