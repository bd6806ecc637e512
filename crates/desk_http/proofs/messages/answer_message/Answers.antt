use Rattle.std.proofs.Common.{◌≡◌, sym, subst}
use Rattle.store_contract.proofs.HoldsLemmas.{holds_weaker}
use Rattle.http_routes.specs.Members.{Control}
use Rattle.http_requests.specs.Requests.{Always, PostControl}
use Rattle.http_requests.specs.Shown.{shown, message_asked}
use Rattle.http_answers.specs.Faults.{IsAnswer}
use Rattle.http_answers.proofs.CrashLemmas.{asked_as, message_left}
use Rattle.http_answers.proofs.MessageLemmas.{message_right}
use Rattle.desk_http.proofs.messages.answer_message.Goals as goal

pub returns-clause-answer : goal.returns-clause-answer
returns-clause-answer g c =
    let old = g.S.Records.desk c.args.store.now in
    let new = g.S.Records.desk c.receive-received.new.store in
    let reply = c.tell_lines.result in
    let received = c.receive-received.result in
    let control : Control = record { from = c.as_str-from.result.now; message = c.as_str-message.result.now } in
    let asked : control ≡ message_asked c.args.request.now =
    λ i. record { from = c.as_str-from.ensures.value i; message = c.as_str-message.ensures.value i } in
    holds_weaker c.receive-received.ensures.answer
    (λ h. subst (λ (m : Control). IsAnswer (PostControl m) old reply.fault (shown reply) new) asked
    (message_right control old new received.outcomes received.end reply h c.tell_lines.ensures.is))

pub returns-clause-crash : goal.returns-clause-crash
returns-clause-crash g c =
    let received = c.receive-received.result in
    let control : Control = record { from = c.as_str-from.result.now; message = c.as_str-message.result.now } in
    asked_as _ (Always (PostControl control)) _ _ _
    (λ i. Always (PostControl (record { from = sym c.as_str-from.ensures.value i; message = sym c.as_str-message.ensures.value i })))
    (message_left g.S.Records.leaves _ _ control _ _ _ _ received.outcomes received.end c.tell_lines.result
    c.receive-received.ensures.answer c.receive-received.ensures.stays c.receive-received.ensures.crash c.tell_lines.ensures.is)
