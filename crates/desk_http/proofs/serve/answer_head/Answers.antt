use Rattle.std.proofs.Common.{◌≡◌, ◌++◌, List, ℕ, Option, Ok, Err, ap, drop, subst}
use Rattle.httparse.specs.Grammar.{RequestHead}
use Rattle.httparse.specs.Spans.{IsRequestAt}
use Rattle.http_bytes.specs.Found.{HadBytes}
use Rattle.store_contract.proofs.HoldsLemmas.{holds_none, holds_weaker}
use Rattle.http_requests.specs.Asking.{asked_of}
use Rattle.http_requests.specs.Refused.{refused, IfAsked}
use Rattle.http_requests.specs.Shown.{asked}
use Rattle.http_requests.specs.Steps.{Gives}
use Rattle.http_requests.specs.declared.fault.AskFault.{AskFault}
use Rattle.http_requests.specs.declared.refusal.RequestRefusal.{RequestRefusal}
use Rattle.http_answers.specs.Stored.{stored}
use Rattle.desk_http.proofs.ExchangeLemmas.{asked_right, memory_right, refused_right}
use Rattle.desk_http.proofs.CrashLemmas.{head_untried, head_tried}
use Rattle.desk_http.proofs.serve.answer_head.Goals as goal

pub returns-in-Ok-clause-answer : goal.returns-in-Ok-clause-answer
returns-in-Ok-clause-answer g c head at =
    let desk = stored g.S.Records.desk g.S.Records.keeping in
    holds_weaker c.answer_request.ensures.answer (λ replied.
    asked_right (g.R.Read.remaining c.args.reader.now) (drop c.args.spans.len c.args.buf.now) head (Ok (asked c.in-Ok.request))
    (desk c.args.store.now) (desk c.answer_request.new.store) c.answer_request.result (c.in-Ok.ensures.asks head at) replied)

pub returns-in-Ok-clause-crash : goal.returns-in-Ok-clause-crash
returns-in-Ok-clause-crash g c head at =
    let old = c.args.store.now in
    let new = c.answer_request.new.store in
    holds_weaker c.answer_request.ensures.crash (head_tried g.S.Records.leaves old new head (drop c.args.spans.len c.args.buf.now)
    (g.R.Read.remaining c.args.reader.now) (asked c.in-Ok.request) c.answer_request.result.fault
    (g.S.Records.desk old, g.S.Records.keeping old) (g.S.Records.desk new, g.S.Records.keeping new) (c.in-Ok.ensures.asks head at))

pub returns-in-Err-Refused-clause-answer : goal.returns-in-Err-Refused-clause-answer
returns-in-Err-Refused-clause-answer g c head at =
    let known = g.R.Read.remaining c.args.reader.now in
    let here = drop c.args.spans.len c.args.buf.now in
    let reply = c.refuse.result in
    let given : Gives (refused c.in-Err-Refused.refusal) reply =
    subst (λ (r : RequestRefusal). Gives (refused r) reply) c.in-Err-Refused.refusal-is c.refuse.ensures.is in
    let asks = subst (λ (f : AskFault). IfAsked (Err f) (λ asked. (head : RequestHead)
    → IsRequestAt c.args.buf.now c.args.headers.now c.args.spans head → HadBytes known (λ more. asked ≡ asked_of head (here ++ more))))
    c.in-Err-Refused.field-0-is c.in-Err-Refused.ensures.asks in
    holds_none g.S.Records.is_kept g.S.Records.is_honest c.args.store.now
    (refused_right known here head c.in-Err-Refused.refusal (stored g.S.Records.desk g.S.Records.keeping c.args.store.now) reply
    (asks head at) given)

pub returns-in-Err-Refused-clause-crash : goal.returns-in-Err-Refused-clause-crash
returns-in-Err-Refused-clause-crash g c head at =
    holds_none g.S.Records.is_kept g.S.Records.is_honest c.args.store.now (head_untried g.S.Records.leaves c.args.store.now head
    (drop c.args.spans.len c.args.buf.now) (g.R.Read.remaining c.args.reader.now) _
    (g.S.Records.desk c.args.store.now, g.S.Records.keeping c.args.store.now))

pub returns-in-Err-Memory-clause-answer : goal.returns-in-Err-Memory-clause-answer
returns-in-Err-Memory-clause-answer g c head at =
    holds_none g.S.Records.is_kept g.S.Records.is_honest c.args.store.now
    (memory_right (g.R.Read.remaining c.args.reader.now) (drop c.args.spans.len c.args.buf.now)
    (stored g.S.Records.desk g.S.Records.keeping c.args.store.now) c.store_fault.result head
    (c.in-Err-Memory.ensures.memory (ap Err c.in-Err-Memory.field-0-is) head at) c.store_fault.ensures.is)

pub returns-in-Err-Memory-clause-crash : goal.returns-in-Err-Memory-clause-crash
returns-in-Err-Memory-clause-crash g c head at =
    holds_none g.S.Records.is_kept g.S.Records.is_honest c.args.store.now (head_untried g.S.Records.leaves c.args.store.now head
    (drop c.args.spans.len c.args.buf.now) (g.R.Read.remaining c.args.reader.now) _
    (g.S.Records.desk c.args.store.now, g.S.Records.keeping c.args.store.now))

pub returns-in-Err-Read-clause-crash : goal.returns-in-Err-Read-clause-crash
returns-in-Err-Read-clause-crash g c head at =
    holds_none g.S.Records.is_kept g.S.Records.is_honest c.args.store.now (head_untried g.S.Records.leaves c.args.store.now head
    (drop c.args.spans.len c.args.buf.now) (g.R.Read.remaining c.args.reader.now) _
    (g.S.Records.desk c.args.store.now, g.S.Records.keeping c.args.store.now))
