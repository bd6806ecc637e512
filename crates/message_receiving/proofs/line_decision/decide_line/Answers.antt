use Rattle.std.proofs.Common.{sym, ◌∙◌, ap, subst, Err, refl}
use Rattle.control_grammar.specs.Lines.{reading, BeginsWithCommand}
use Rattle.store_contract.specs.Message.{machine, takes}
use Rattle.store_contract.specs.Kept.{reads_as_command}
use Rattle.store_contract.proofs.HoldsLemmas.{asks_none}
use Rattle.message_receiving.proofs.FailedLemmas.{on_err, command_told}
use Rattle.message_receiving.proofs.DecidingLemmas.{decides_plainly, fits_plainly, members_plainly, counts_memory, takes_stop, takes_refused, refused-good}
use Rattle.message_receiving.proofs.line_decision.decide_line.Goals as goal

pub returns-in-Err-Refused-clause-answer : goal.returns-in-Err-Refused-clause-answer
returns-in-Err-Refused-clause-answer g c =
    let reads = ap reading (sym c.as_str.ensures)
    ∙ (rw c.in-Err-Refused.field-0-is at c.in-Err-Refused.ensures.exact ∙ ap Err (sym c.in-Err-Refused.refusal-is)) in
    let d = g.S.Records.desk c.args.store.now in
    asks_none _ _ _ _
    (decides_plainly c.args.from.now c.args.line.now d c.args.progress.now.outcomes.items c.args.progress.now.known.names _ _
    c.decide_plain-in-Err-Refused.result (takes_refused c.args.from.now c.args.line.now d _ _ reads)
    (refused-good c.args.line.now _ reads) c.decide_plain-in-Err-Refused.ensures.known
    c.decide_plain-in-Err-Refused.ensures.decided)

pub returns-in-Ok-Blank-clause-answer : goal.returns-in-Ok-Blank-clause-answer
returns-in-Ok-Blank-clause-answer g c =
    let reads = ap reading (sym c.as_str.ensures) ∙ rw c.in-Ok-Blank.field-0-is at c.in-Ok-Blank.ensures.exact in
    let d = g.S.Records.desk c.args.store.now in
    asks_none _ _ _ _ (λ have. (ap (takes c.args.from.now (machine d c.args.progress.now.outcomes.items) c.args.line.now) reads, have), refl)

pub returns-in-Ok-Comment-clause-answer : goal.returns-in-Ok-Comment-clause-answer
returns-in-Ok-Comment-clause-answer g c =
    let reads = ap reading (sym c.as_str.ensures) ∙ rw c.in-Ok-Comment.field-0-is at c.in-Ok-Comment.ensures.exact in
    let d = g.S.Records.desk c.args.store.now in
    asks_none _ _ _ _ (λ have. (ap (takes c.args.from.now (machine d c.args.progress.now.outcomes.items) c.args.line.now) reads, have), refl)

pub returns-in-Ok-Stop-clause-answer : goal.returns-in-Ok-Stop-clause-answer
returns-in-Ok-Stop-clause-answer g c =
    let reads = ap reading (sym c.as_str.ensures) ∙ rw c.in-Ok-Stop.field-0-is at c.in-Ok-Stop.ensures.exact in
    let d = g.S.Records.desk c.args.store.now in
    asks_none _ _ _ _
    (decides_plainly c.args.from.now c.args.line.now d c.args.progress.now.outcomes.items c.args.progress.now.known.names _ _
    c.decide_plain.result (takes_stop c.args.from.now c.args.line.now d _ reads) tt c.decide_plain.ensures.known
    c.decide_plain.ensures.decided)

pub returns-in-Ok-Stop-clause-fits : goal.returns-in-Ok-Stop-clause-fits
returns-in-Ok-Stop-clause-fits g c = λ u w.
    fits_plainly (g.S.Records.desk c.args.store.now) c.args.line.now _ c.decide_plain.result c.decide_plain.ensures.decided

pub returns-in-Ok-Stop-clause-members : goal.returns-in-Ok-Stop-clause-members
returns-in-Ok-Stop-clause-members g c = members_plainly c.args.line.now _ c.decide_plain.result c.decide_plain.ensures.decided

pub returns-in-Ok-Stop-clause-count : goal.returns-in-Ok-Stop-clause-count
returns-in-Ok-Stop-clause-count g c = counts_memory c.decide_plain.result _ c.decide_plain.ensures.memory

pub returns-in-Err-Refused-clause-fits : goal.returns-in-Err-Refused-clause-fits
returns-in-Err-Refused-clause-fits g c = λ u w.
    fits_plainly (g.S.Records.desk c.args.store.now) c.args.line.now _ c.decide_plain-in-Err-Refused.result
    c.decide_plain-in-Err-Refused.ensures.decided

pub returns-in-Err-Refused-clause-members : goal.returns-in-Err-Refused-clause-members
returns-in-Err-Refused-clause-members g c =
    members_plainly c.args.line.now _ c.decide_plain-in-Err-Refused.result c.decide_plain-in-Err-Refused.ensures.decided

pub returns-in-Err-Refused-clause-count : goal.returns-in-Err-Refused-clause-count
returns-in-Err-Refused-clause-count g c =
    counts_memory c.decide_plain-in-Err-Refused.result _ c.decide_plain-in-Err-Refused.ensures.memory

pub returns-in-Ok-Stop-clause-failed : goal.returns-in-Ok-Stop-clause-failed
returns-in-Ok-Stop-clause-failed g c =
    let reads = ap reading (sym c.as_str.ensures) ∙ rw c.in-Ok-Stop.field-0-is at c.in-Ok-Stop.ensures.exact in
    on_err c.decide_plain.result (ap reads_as_command reads)

pub returns-in-Ok-Do-clause-failed : goal.returns-in-Ok-Do-clause-failed
returns-in-Ok-Do-clause-failed g c =
    let reads = ap reading (sym c.as_str.ensures) ∙ rw c.in-Ok-Do.field-0-is at c.in-Ok-Do.ensures.exact in
    on_err c.decide_command_line.result (ap reads_as_command reads)

pub returns-in-Err-Refused-clause-failed : goal.returns-in-Err-Refused-clause-failed
returns-in-Err-Refused-clause-failed g c =
    let reads = ap reading (sym c.as_str.ensures) ∙ rw c.in-Err-Refused.field-0-is at c.in-Err-Refused.ensures.exact in
    on_err c.decide_plain-in-Err-Refused.result (ap reads_as_command reads)

pub returns-in-Err-Memory-clause-failed : goal.returns-in-Err-Memory-clause-failed
returns-in-Err-Memory-clause-failed g c =
    command_told c.args.line.now
    (subst BeginsWithCommand c.as_str.ensures (c.in-Err-Memory.ensures.memory c.in-Err-Memory.field-0-is))
