use Rattle.std.proofs.Common.{map, ap, sym, subst, ◌∙◌}
use Rattle.clap.specs.Words.{App, HasKind, is_simple, is_simple_and_free, fault_of, matches_of}
use Rattle.program_options.specs.Options.{refusals}
use Rattle.program_options.proofs.OptionLemmas.{are_simple, are_simple_and_free, told-of_kinds}
use Rattle.program_options.proofs.options.match_options.Goals as goal

pub returns-in-Ok-clause-taken :
    goal.returns-in-Ok-clause-taken
unfolding refusals
returns-in-Ok-clause-taken c =
    let e = c.in_ok-command.ensures in
    ap (λ (a : App). fault_of a (map (λ s. s.now) c.args.words.now)) (sym e)
    ∙ c.in-Ok.ensures.kinds (ap is_simple_and_free e ∙ are_simple_and_free)

pub returns-in-Ok-clause-rows :
    goal.returns-in-Ok-clause-rows
returns-in-Ok-clause-rows c =
    let e = c.in_ok-command.ensures in
    let h = c.in-Ok.ensures.matches (ap is_simple e ∙ are_simple) in
    h.0 ∙ ap (λ (a : App). matches_of a (map (λ s. s.now) c.args.words.now)) e

pub returns-in-Err-clause-err : goal.returns-in-Err-clause-err
unfolding refusals
returns-in-Err-clause-err c =
    let e = c.in_ok-command.ensures in
    let words = map (λ s. s.now) c.args.words.now in
    let has = c.in-Err.ensures.kinds (ap is_simple_and_free e ∙ are_simple_and_free) in
    told-of_kinds c.in-Err.error (refusals words) c.told_of.result c.told_of.ensures
    (subst (λ (a : App). HasKind (fault_of a words) c.in-Err.error) e has)
