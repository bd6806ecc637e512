use Rattle.std.proofs.Common.{rules, ◌≡◌, Option, Some, None, Ok, refl, sym, subst, take}
use Rattle.base_faults.specs.declared.store_fault.StoreFault.{StoreFault}
use Rattle.http_bytes.specs.Found.{IsFound}
use Rattle.http_bytes.specs.declared.head.Head.{Head}
use Rattle.store_contract.proofs.HoldsLemmas.{holds_none, holds_weaker}
use Rattle.http_answers.specs.Stored.{stored}
use Rattle.desk_http.proofs.ExchangeLemmas.{made_right, lacking_right, failed_exchange, not_wrong}
use Rattle.desk_http.proofs.CrashLemmas.{none_tried, exchange_tried, failed_tried}
use Rattle.http_requests.proofs.TakenLemmas.{takes_alone, takes_head, takes_behind}
use Rattle.desk_http.proofs.serve.exchange.Goals as goal

pub returns-in_default-new-clause-answer : goal.returns-in_default-new-clause-answer
returns-in_default-new-clause-answer g c =
    let before = g.R.Read.remaining c.args.reader.now in
    let after = g.R.Read.remaining c.read_head.new.reader in
    let buf = c.read_head.new.buf in
    let headers = c.read_head.new.headers in
    let spans = c.in-Complete.spans in
    let filled = c.in-Complete.filled in
    let found = subst (λ (h : Head). IsFound before after buf headers h) c.in-Complete.is c.in-Ok.ensures.found in
    let desk = stored g.S.Records.desk g.S.Records.keeping c.args.store.now in
    let faults = g.S.Records.faults c.args.store.now in
    holds_none g.S.Records.is_kept g.S.Records.is_honest c.args.store.now
    (lacking_right before after buf headers spans filled found desk faults c.store_fault.result c.store_fault.ensures.is)

pub returns-in_default-new-clause-count : goal.returns-in_default-new-clause-count
returns-in_default-new-clause-count g c = search rules

pub returns-in_default-new-clause-wrong : goal.returns-in_default-new-clause-wrong
returns-in_default-new-clause-wrong g c =
    let before = g.R.Read.remaining c.args.reader.now in
    let after = g.R.Read.remaining c.read_head.new.reader in
    let buf = c.read_head.new.buf in
    let headers = c.read_head.new.headers in
    let spans = c.in-Complete.spans in
    let filled = c.in-Complete.filled in
    let found = subst (λ (h : Head). IsFound before after buf headers h) c.in-Complete.is c.in-Ok.ensures.found in
    not_wrong before after buf headers spans filled found _

pub returns-in_default-new-clause-taken : goal.returns-in_default-new-clause-taken
returns-in_default-new-clause-taken g c = takes_head c.read_head.result _ _ _ c.read_head.ensures.taken

pub returns-in_default-new-clause-crash : goal.returns-in_default-new-clause-crash
returns-in_default-new-clause-crash g c =
    holds_none g.S.Records.is_kept g.S.Records.is_honest c.args.store.now (none_tried g.S.Records.leaves c.args.store.now
    (g.R.Read.remaining c.args.reader.now) _ (g.S.Records.desk c.args.store.now, g.S.Records.keeping c.args.store.now))

pub returns-clause-answer : goal.returns-clause-answer
returns-clause-answer g c =
    let before = g.R.Read.remaining c.args.reader.now in
    let after = g.R.Read.remaining c.read_head.new.reader in
    let buf = c.read_head.new.buf in
    let headers = c.read_head.new.headers in
    let spans = c.in-Complete.spans in
    let filled = c.in-Complete.filled in
    let found = subst (λ (h : Head). IsFound before after buf headers h) c.in-Complete.is c.in-Ok.ensures.found in
    let desk = stored g.S.Records.desk g.S.Records.keeping in
    let new = c.answer_head.new.store in
    holds_weaker (c.in_ok-reply.ensures.answer found.head found.covers) (λ had.
    made_right before after buf headers spans filled found (desk c.args.store.now) (desk new)
    (g.S.Records.faults c.args.store.now) (g.S.Records.faults new) c.in_ok-reply.reply had c.in_ok-reply.ensures.count.0)

pub returns-clause-wrong : goal.returns-clause-wrong
returns-clause-wrong g c =
    let before = g.R.Read.remaining c.args.reader.now in
    let after = g.R.Read.remaining c.read_head.new.reader in
    let buf = c.read_head.new.buf in
    let headers = c.read_head.new.headers in
    let spans = c.in-Complete.spans in
    let filled = c.in-Complete.filled in
    let found = subst (λ (h : Head). IsFound before after buf headers h) c.in-Complete.is c.in-Ok.ensures.found in
    not_wrong before after buf headers spans filled found _

pub returns-clause-taken : goal.returns-clause-taken
returns-clause-taken g c =
    let before = g.R.Read.remaining c.args.reader.now in
    let after = g.R.Read.remaining c.read_head.new.reader in
    let buf = c.read_head.new.buf in
    let headers = c.read_head.new.headers in
    let spans = c.in-Complete.spans in
    let filled = c.in-Complete.filled in
    let found = subst (λ (h : Head). IsFound before after buf headers h) c.in-Complete.is c.in-Ok.ensures.found in
    takes_behind c.read_head.result c.in-Ok.head before after (g.R.Read.remaining c.answer_head.new.reader) buf headers
    spans filled c.read_head.ensures.taken c.in-Ok.is c.in-Complete.is found c.in_ok-reply.ensures.taken

pub returns-clause-crash : goal.returns-clause-crash
returns-clause-crash g c =
    let before = g.R.Read.remaining c.args.reader.now in
    let after = g.R.Read.remaining c.read_head.new.reader in
    let buf = c.read_head.new.buf in
    let headers = c.read_head.new.headers in
    let spans = c.in-Complete.spans in
    let filled = c.in-Complete.filled in
    let found = subst (λ (h : Head). IsFound before after buf headers h) c.in-Complete.is c.in-Ok.ensures.found in
    let old = c.args.store.now in
    let new = c.answer_head.new.store in
    holds_weaker (c.in_ok-reply.ensures.crash found.head found.covers) (exchange_tried g.S.Records.leaves old new before after buf headers
    spans filled found c.in_ok-reply.reply.fault (g.S.Records.desk old, g.S.Records.keeping old) (g.S.Records.desk new, g.S.Records.keeping new))

pub returns-in_err-reply-clause-answer : goal.returns-in_err-reply-clause-answer
returns-in_err-reply-clause-answer g c =
    let before = g.R.Read.remaining c.args.reader.now in
    let after = g.R.Read.remaining c.read_head.new.reader in
    let buf = c.read_head.new.buf in
    let headers = c.read_head.new.headers in
    let spans = c.in-Complete.spans in
    let filled = c.in-Complete.filled in
    let found = subst (λ (h : Head). IsFound before after buf headers h) c.in-Complete.is c.in-Ok.ensures.found in
    let desk = stored g.S.Records.desk g.S.Records.keeping in
    let new = c.answer_head.new.store in
    holds_weaker (c.in_err-reply.ensures.answer found.head found.covers)
    (failed_exchange before (desk c.args.store.now) (desk new) (g.S.Records.faults c.args.store.now) (g.S.Records.faults new)
    c.from_residual.result _ c.from_residual.ensures.1)

pub returns-in_err-reply-clause-wrong : goal.returns-in_err-reply-clause-wrong
returns-in_err-reply-clause-wrong g c =
    let before = g.R.Read.remaining c.args.reader.now in
    let after = g.R.Read.remaining c.read_head.new.reader in
    let buf = c.read_head.new.buf in
    let headers = c.read_head.new.headers in
    let spans = c.in-Complete.spans in
    let filled = c.in-Complete.filled in
    let found = subst (λ (h : Head). IsFound before after buf headers h) c.in-Complete.is c.in-Ok.ensures.found in
    not_wrong before after buf headers spans filled found _

pub returns-in_err-reply-clause-taken : goal.returns-in_err-reply-clause-taken
returns-in_err-reply-clause-taken g c =
    let before = g.R.Read.remaining c.args.reader.now in
    let after = g.R.Read.remaining c.read_head.new.reader in
    let buf = c.read_head.new.buf in
    let headers = c.read_head.new.headers in
    let spans = c.in-Complete.spans in
    let filled = c.in-Complete.filled in
    let found = subst (λ (h : Head). IsFound before after buf headers h) c.in-Complete.is c.in-Ok.ensures.found in
    takes_behind c.read_head.result c.in-Ok.head before after (g.R.Read.remaining c.answer_head.new.reader) buf headers
    spans filled c.read_head.ensures.taken c.in-Ok.is c.in-Complete.is found c.in_err-reply.ensures.taken

pub returns-in_err-reply-clause-crash : goal.returns-in_err-reply-clause-crash
returns-in_err-reply-clause-crash g c =
    let before = g.R.Read.remaining c.args.reader.now in
    let after = g.R.Read.remaining c.read_head.new.reader in
    let buf = c.read_head.new.buf in
    let headers = c.read_head.new.headers in
    let spans = c.in-Complete.spans in
    let filled = c.in-Complete.filled in
    let found = subst (λ (h : Head). IsFound before after buf headers h) c.in-Complete.is c.in-Ok.ensures.found in
    let old = c.args.store.now in
    let new = c.answer_head.new.store in
    holds_weaker (c.in_err-reply.ensures.crash found.head found.covers) (λ left.
    failed_tried g.S.Records.leaves old new before (g.S.Records.desk old, g.S.Records.keeping old)
    (g.S.Records.desk new, g.S.Records.keeping new) c.from_residual.result _ c.from_residual.ensures.1
    (exchange_tried g.S.Records.leaves old new before after buf headers spans filled found None
    (g.S.Records.desk old, g.S.Records.keeping old) (g.S.Records.desk new, g.S.Records.keeping new) left))

pub returns-in_default-clause-answer : goal.returns-in_default-clause-answer
returns-in_default-clause-answer g c = holds_none _ _ _ refl

pub returns-in_default-clause-count : goal.returns-in_default-clause-count
returns-in_default-clause-count g c = refl

pub returns-in_default-clause-closed : goal.returns-in_default-clause-closed
returns-in_default-clause-closed g c = tt

pub returns-in_default-clause-read : goal.returns-in_default-clause-read
returns-in_default-clause-read g c = (refl, refl)

pub returns-in-Wrong-clause-answer : goal.returns-in-Wrong-clause-answer
returns-in-Wrong-clause-answer g c = search rules

pub returns-in-Wrong-clause-closed : goal.returns-in-Wrong-clause-closed
returns-in-Wrong-clause-closed g c = search rules

pub returns-in-Wrong-clause-wrong : goal.returns-in-Wrong-clause-wrong
returns-in-Wrong-clause-wrong g c = search rules

pub returns-in_default-clause-taken : goal.returns-in_default-clause-taken
returns-in_default-clause-taken g c = takes_head c.read_head.result _ _ _ c.read_head.ensures.taken

pub returns-in-Nothing-clause-taken : goal.returns-in-Nothing-clause-taken
returns-in-Nothing-clause-taken g c = takes_head c.read_head.result _ _ _ c.read_head.ensures.taken

pub returns-in-Wrong-clause-taken : goal.returns-in-Wrong-clause-taken
returns-in-Wrong-clause-taken g c = takes_head c.read_head.result _ _ _ c.read_head.ensures.taken

pub returns-in_default-clause-crash : goal.returns-in_default-clause-crash
returns-in_default-clause-crash g c =
    holds_none g.S.Records.is_kept g.S.Records.is_honest c.args.store.now (none_tried g.S.Records.leaves c.args.store.now
    (g.R.Read.remaining c.args.reader.now) None (g.S.Records.desk c.args.store.now, g.S.Records.keeping c.args.store.now))

pub returns-in-Nothing-clause-crash : goal.returns-in-Nothing-clause-crash
returns-in-Nothing-clause-crash g c =
    holds_none g.S.Records.is_kept g.S.Records.is_honest c.args.store.now (none_tried g.S.Records.leaves c.args.store.now
    (g.R.Read.remaining c.args.reader.now) None (g.S.Records.desk c.args.store.now, g.S.Records.keeping c.args.store.now))

pub returns-in-Wrong-clause-crash : goal.returns-in-Wrong-clause-crash
returns-in-Wrong-clause-crash g c =
    holds_none g.S.Records.is_kept g.S.Records.is_honest c.args.store.now (none_tried g.S.Records.leaves c.args.store.now
    (g.R.Read.remaining c.args.reader.now) _ (g.S.Records.desk c.args.store.now, g.S.Records.keeping c.args.store.now))
