use Rattle.std.proofs.Common.{◌++◌, ap, ◌∙◌}
use Rattle.std.proofs.lemmas.Result.{IfOk-weaker}
use Rattle.store_contract.specs.Message.{names_of}
use Rattle.message_plans.proofs.PlanInputLemmas.{asks_where, answers_weaker}
use Rattle.message_receiving.proofs.CommandLemmas.{decides_told, fits_now}
use Rattle.store_contract.proofs.GivenLemmas.{of_bugs, have-more}
use Rattle.message_receiving.proofs.command_decision.decide_command.Goals as goal

pub returns-in-Ok-clause-answer : goal.returns-in-Ok-clause-answer
returns-in-Ok-clause-answer g c =
    asks_where c.decide_known-decided.ensures.answer
    (λ u w h. answers_weaker _ _ c.decide_known-decided.result h c.decide_known-decided.ensures.named
    (λ decision told named have.
    let sound = g.met.S.Records.sound _ u in
    let meant = c.in-Ok.ensures.meant (of_bugs c.args.known.now.names have) c.requires.bugs _ c.args.from.now sound in
    let decided = decides_told c.args.from.now c.args.known.now.names _ c.args.command c.in-Ok.command decision sound c.requires.bugs
    c.requires.names have meant told in
    (decided, have-more c.args.known.now.names _ _ decision.outcome named have decided.good)))

pub returns-in-Ok-clause-fits : goal.returns-in-Ok-clause-fits
returns-in-Ok-clause-fits g c = λ k h.
    let a = c.decide_known-decided.ensures.answer in
    fits_now c.args.from.now c.args.known.now.names _ _ c.in-Ok.command c.decide_known-decided.result (a.holds.fact (a.was_kept k h) h)

pub returns-in-Ok-clause-named : goal.returns-in-Ok-clause-named
returns-in-Ok-clause-named g c =
    IfOk-weaker c.decide_known-decided.result _ _
    (λ decision e. e ∙ ap (λ ks. c.args.known.now.names ++ names_of ks decision.outcome) c.in-Ok.ensures.names)
    c.decide_known-decided.ensures.named
