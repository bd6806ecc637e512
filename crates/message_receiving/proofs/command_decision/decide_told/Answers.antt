use Rattle.std.proofs.Common.{◌∙◌}
use Rattle.message_plans.proofs.PlanInputLemmas.{asks_both, asks_where, answers_where}
use Rattle.message_receiving.proofs.CommandLemmas.{shown_with}
use Rattle.message_receiving.proofs.command_decision.decide_told.Goals as goal

pub returns-clause-answer : goal.returns-clause-answer
returns-clause-answer g c =
    let d = g.S.Records.desk c.args.store.now in
    asks_where (asks_both c.in_ok-images.ensures.answer c.in_ok-next.ensures.answer)
    (λ u w h.
    let sh = shown_with d _ c.args.command.now _ _ _ _ c.as_slice-sets.ensures c.as_ref.ensures.value h.0 h.1.0
    (g.met.S.Records.sound _ u) in
    answers_where _ _ c.decide_shown.result (h.1.1 ∙ h.0.1) c.decide_shown.ensures.decided
    (λ decision decided names free. decided d names sh.0 sh.1 free))
