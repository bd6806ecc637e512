use Rattle.std.proofs.Common.{◌≡◌, ◌∙◌, sym, rules, Ok, Err}
use Rattle.std.specs.Option.{option_copied}
use Rattle.http_routes.specs.Members.{Report}
use Rattle.store_contract.specs.Store.{IsNext}
use Rattle.http_requests.specs.Requests.{Always, PostBug}
use Rattle.http_requests.specs.Shown.{report_asked}
use Rattle.http_answers.proofs.CrashLemmas.{asked_as, asked_left, report_left}
use Rattle.http_answers.proofs.reports.answer_report.Goals as goal

pub returns-in-Ok-taken-clause-answer : goal.returns-in-Ok-taken-clause-answer
returns-in-Ok-taken-clause-answer g c = search rules

pub returns-in-Ok-taken-clause-count : goal.returns-in-Ok-taken-clause-count
returns-in-Ok-taken-clause-count g c = search rules

pub returns-in-Err-clause-crash : goal.returns-in-Err-clause-crash
returns-in-Err-clause-crash g c =
    asked_left g.S.Records.leaves g.met.S.Records.either _ _ _ _ _ _ _ _ _ _ c.next.ensures.answer c.next.ensures.stays

pub returns-in_default-clause-crash : goal.returns-in_default-clause-crash
returns-in_default-clause-crash g c =
    asked_left g.S.Records.leaves g.met.S.Records.either _ _ _ _ _ _ _ _ _ _ c.next.ensures.answer c.next.ensures.stays

pub returns-in_default-of-clause-crash : goal.returns-in_default-of-clause-crash
returns-in_default-of-clause-crash g c =
    asked_left g.S.Records.leaves g.met.S.Records.either _ _ _ _ _ _ _ _ _ _ c.next.ensures.answer c.next.ensures.stays

pub returns-in-Ok-taken-clause-crash : goal.returns-in-Ok-taken-clause-crash
returns-in-Ok-taken-clause-crash g c =
    let version = option_copied c.version_of.result in
    let report : Report = record {
      from = c.in-Ok-of.from;
      «package» = c.as_str-2.result.now;
      severity = c.as_str-3.result.now;
      title = c.as_str-4.result.now;
      version = version;
    } in
    let asked : report_asked c.args.request.now ≡ report = λ i. record {
      from = sym (c.in-Ok-of.ensures ∙ c.as_str.ensures.value) i;
      «package» = sym c.as_str-2.ensures.value i;
      severity = sym c.as_str-3.ensures.value i;
      title = sym c.as_str-4.ensures.value i;
      version = sym c.version_of.ensures i;
    } in
    asked_as _ (Always (PostBug report)) _ _ _ (λ i. Always (PostBug (asked i)))
    (report_left g.S.Records.leaves g.met.S.Records.either _ _ _ report.from report.«package» version report.severity report.title _ _ _ _ _
    _ c.next.result (IsNext (g.S.Records.desk c.args.store.now)) (Ok c.in-Ok-taken.field-0) c.json_reply.result c.next.ensures.answer c.next.ensures.stays
    c.in-Ok-taken.ensures.answer c.in-Ok-taken.ensures.stays c.in-Ok-taken.ensures.crash tt)

pub returns-in-Err-taken-clause-crash : goal.returns-in-Err-taken-clause-crash
returns-in-Err-taken-clause-crash g c =
    let version = option_copied c.version_of.result in
    let report : Report = record {
      from = c.in-Ok-of.from;
      «package» = c.as_str-2.result.now;
      severity = c.as_str-3.result.now;
      title = c.as_str-4.result.now;
      version = version;
    } in
    let asked : report_asked c.args.request.now ≡ report = λ i. record {
      from = sym (c.in-Ok-of.ensures ∙ c.as_str.ensures.value) i;
      «package» = sym c.as_str-2.ensures.value i;
      severity = sym c.as_str-3.ensures.value i;
      title = sym c.as_str-4.ensures.value i;
      version = sym c.version_of.ensures i;
    } in
    asked_as _ (Always (PostBug report)) _ _ _ (λ i. Always (PostBug (asked i)))
    (report_left g.S.Records.leaves g.met.S.Records.either _ _ _ report.from report.«package» version report.severity report.title _ _ _ _ _
    _ c.next.result (IsNext (g.S.Records.desk c.args.store.now)) (Err c.in-Err-taken.fault) c.not_taken.result c.next.ensures.answer c.next.ensures.stays
    c.in-Err-taken.ensures.answer c.in-Err-taken.ensures.stays c.in-Err-taken.ensures.crash c.not_taken.ensures.is)
