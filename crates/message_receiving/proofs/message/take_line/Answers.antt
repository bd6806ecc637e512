use Rattle.std.proofs.Common.{sym}
use Rattle.store_contract.proofs.HoldsLemmas.{holds_then}
use Rattle.message_receiving.proofs.MachineLemmas.{took_decision}
use Rattle.message_receiving.proofs.FailedLemmas.{on_err}
use Rattle.message_receiving.proofs.message.take_line.Goals as goal

pub carry_out-requires-clause-fits : goal.carry_out-requires-clause-fits
carry_out-requires-clause-fits g c = λ k h.
    let fits = rw c.in-Ok-Some.field-0-is at c.in-Ok-Some.ensures.fits in fits k h

pub returns-in_ok-carry_out-in-Ok-Some-clause-answer : goal.returns-in_ok-carry_out-in-Ok-Some-clause-answer
returns-in_ok-carry_out-in-Ok-Some-clause-answer g c =
    let a = rw c.in-Ok-Some.field-0-is at c.in-Ok-Some.ensures.answer in
    let ready = rw c.in-Ok-Some.field-0-is at c.in-Ok-Some.ensures.ready in
    holds_then a.holds c.in_ok-carry_out-in-Ok-Some.ensures.answer
    (λ p q have. took_decision c.args.from.now c.args.line.now _ _ _ _ c.args.progress.now.outcomes.items _ _ _ _ c.in-Ok-Some.decision
    (p.0 have) p.1 q c.decide_line.ensures.outcomes ready.0 c.settle.ensures.added c.settle.ensures.names)

pub returns-in_err-carry_out-in-Ok-Some-clause-failed : goal.returns-in_err-carry_out-in-Ok-Some-clause-failed
returns-in_err-carry_out-in-Ok-Some-clause-failed g c =
    let there = rw c.in-Ok-Some.field-0-is at c.in-Ok-Some.ensures.told in
    on_err c.from_residual.result (sym there)
