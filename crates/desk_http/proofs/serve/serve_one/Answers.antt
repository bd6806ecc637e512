use Rattle.std.proofs.Common.{refl}
use Rattle.store_contract.proofs.HoldsLemmas.{holds_weaker}
use Rattle.http_requests.specs.Shown.{shown}
use Rattle.desk_http.proofs.ExchangeLemmas.{wrong_served, wrong_unwritten}
use Rattle.desk_http.proofs.CrashLemmas.{told_none}
use Rattle.desk_http.proofs.serve.serve_one.Goals as goal

pub returns-in-Ok-clause-wrong : goal.returns-in-Ok-clause-wrong
returns-in-Ok-clause-wrong g c =
    wrong_served (g.R.Read.remaining c.args.reader.now) _ c.in_ok-reply.field-0 c.in-Some.reply
    (g.W.Write.contents c.args.writer.now) (g.W.Write.contents c.write_reply.new.writer) c.in-Some.is
    c.in_ok-reply.ensures.wrong c.in-Ok.ensures.all

pub returns-clause-wrong : goal.returns-clause-wrong
returns-clause-wrong g c =
    wrong_unwritten (g.R.Read.remaining c.args.reader.now) _ _ c.in_ok-reply.ensures.wrong

pub returns-in-Ok-clause-answer : goal.returns-in-Ok-clause-answer
returns-in-Ok-clause-answer g c =
    holds_weaker (rw c.in-Some.is at c.in_ok-reply.ensures.answer)
    (λ right. (c.in-Some.reply.fault, shown c.in-Some.reply, right, refl, c.in-Ok.ensures.all))

pub returns-clause-answer : goal.returns-clause-answer
returns-clause-answer g c =
    holds_weaker (rw c.in-Some.is at c.in_ok-reply.ensures.answer)
    (λ right. (c.in-Some.reply.fault, shown c.in-Some.reply, right, c.in-Err.ensures.unfinished.0, c.in-Err.ensures.unfinished.1))

pub returns-in-Ok-clause-told : goal.returns-in-Ok-clause-told
returns-in-Ok-clause-told g c =
    let count = rw c.in-Some.is at c.in_ok-reply.ensures.count in
    (c.in-Some.reply.fault, shown c.in-Some.reply, count.0, count.1, refl, c.in-Ok.ensures.all)

pub returns-in-Ok-clause-crash : goal.returns-in-Ok-clause-crash
returns-in-Ok-clause-crash g c =
    let count = rw c.in-Some.is at c.in_ok-reply.ensures.count in
    holds_weaker (rw c.in-Some.is at c.in_ok-reply.ensures.crash)
    (λ left. (c.in-Some.reply.fault, told_none c.in-Some.reply.fault (shown c.in-Some.reply) count.1, left))

pub returns-clause-crash : goal.returns-clause-crash
returns-clause-crash g c =
    holds_weaker (rw c.in-Some.is at c.in_ok-reply.ensures.crash) (λ left. (c.in-Some.reply.fault, tt, left))
