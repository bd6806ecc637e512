use Rattle.std.proofs.Common.{◌∙◌, sym, List, ℕ, Ok, subst, string_bytes}
use Rattle.control_lines.specs.Lines.{lines_of}
use Rattle.store_contract.specs.Store.{Holds}
use Rattle.store_contract.proofs.HoldsLemmas.{holds_weaker}
use Rattle.message_receiving.specs.Once.{IsOnce}
use Rattle.http_answers.specs.Cases.{AnswersEnd}
use Rattle.http_requests.specs.Shown.{message_asked}
use Rattle.http_answers.specs.Stored.{stored}
use Rattle.http_routes.specs.Members.{Control}
use Rattle.http_requests.specs.Requests.{Once}
use Rattle.http_answers.proofs.CrashLemmas.{asked_as, once_left, once_failed}
use Rattle.desk_http.proofs.RepeatLemmas.{once_right}
use Rattle.desk_http.proofs.once.answer_once.Goals as goal

pub returns-in-Ok-clause-answer : goal.returns-in-Ok-clause-answer
returns-in-Ok-clause-answer g c =
    let desk = g.S.Records.desk in
    let keeping = g.S.Records.keeping in
    let before = c.args.store.now in
    let after = c.receive_once-received.new.store in
    let received = c.in-Ok.received in
    let reply = c.tell_lines.result in
    let id = c.as_str.result.now in
    let from = c.as_str-2.result.now in
    let asked = message_asked c.args.request.now.message in
    let told = subst (λ (m : List ℕ). AnswersEnd received.outcomes received.end (lines_of m) reply) c.as_str-in-Ok.ensures.value
    c.tell_lines.ensures.is in
    let once = c.in-Ok.ensures.answer in
    let of_message = subst (λ (m : List ℕ). Holds g.S.Records.is_kept g.S.Records.is_honest before after
    (IsOnce id from m (desk before) (keeping before) (Ok received) (desk after) (keeping after))) c.as_str-3.ensures.value once in
    let of_sender = subst (λ (f : List ℕ). Holds g.S.Records.is_kept g.S.Records.is_honest before after
    (IsOnce id f asked.message (desk before) (keeping before) (Ok received) (desk after) (keeping after))) c.as_str-2.ensures.value
    of_message in
    let of_id = subst (λ (i : List ℕ). Holds g.S.Records.is_kept g.S.Records.is_honest before after
    (IsOnce i asked.from asked.message (desk before) (keeping before) (Ok received) (desk after) (keeping after)))
    c.as_str.ensures.value of_sender in
    holds_weaker of_id
    (λ h. once_right (string_bytes c.args.request.now.id) asked (stored desk keeping before) (stored desk keeping after) received
    reply h told)

pub returns-in-Ok-clause-crash : goal.returns-in-Ok-clause-crash
returns-in-Ok-clause-crash g c =
    let received = c.in-Ok.received in
    let id = c.as_str.result.now in
    let control : Control = record { from = c.as_str-2.result.now; message = c.as_str-3.result.now } in
    let told = subst (λ (m : List ℕ). AnswersEnd received.outcomes received.end (lines_of m) c.tell_lines.result)
    (c.as_str-in-Ok.ensures.value ∙ sym c.as_str-3.ensures.value) c.tell_lines.ensures.is in
    asked_as _ (Once id control) _ _ _
    (λ i. Once (sym c.as_str.ensures.value i)
    (record { from = sym c.as_str-2.ensures.value i; message = sym c.as_str-3.ensures.value i }))
    (once_left g.S.Records.leaves _ _ id control _ _ _ _ received c.tell_lines.result c.in-Ok.ensures.answer c.in-Ok.ensures.crash told)

pub returns-in-Err-Reused-clause-crash : goal.returns-in-Err-Reused-clause-crash
returns-in-Err-Reused-clause-crash g c =
    once_failed g.S.Records.leaves _ _ _ _ _ _ _ _ _ _ _ c.receive_once-received.result c.in-Err-Reused.field-0 c.in-Err-Reused.is
    c.receive_once-received.ensures.answer c.receive_once-received.ensures.crash

pub returns-in-Err-Store-clause-crash : goal.returns-in-Err-Store-clause-crash
returns-in-Err-Store-clause-crash g c =
    once_failed g.S.Records.leaves _ _ _ _ _ _ _ _ _ _ _ c.receive_once-received.result c.in-Err-Store.field-0 c.in-Err-Store.is
    c.receive_once-received.ensures.answer c.receive_once-received.ensures.crash
