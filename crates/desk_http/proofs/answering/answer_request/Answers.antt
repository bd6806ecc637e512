use Rattle.std.proofs.Common.{List, String, Global, map, string_bytes, sym, ap, ◌∙◌}
use Rattle.http_requests.specs.Requests.{Always, PostBranch}
use Rattle.http_requests.specs.Shown.{asked}
use Rattle.http_answers.proofs.AskedLemmas.{always_right}
use Rattle.http_answers.proofs.CrashLemmas.{asked_as}
use Rattle.desk_http.proofs.answering.answer_request.Goals as goal

pub returns-in-Report-clause-answer : goal.returns-in-Report-clause-answer
returns-in-Report-clause-answer g c =
    always_right _ _ _ _ _ _ (ap asked c.in-Report.is) c.answer_report.ensures.answer c.answer_report.ensures.stays

pub returns-in-Message-clause-answer : goal.returns-in-Message-clause-answer
returns-in-Message-clause-answer g c =
    always_right _ _ _ _ _ _ (ap asked c.in-Message.is) c.answer_message.ensures.answer c.answer_message.ensures.stays

pub returns-in-Branch-clause-answer : goal.returns-in-Branch-clause-answer
returns-in-Branch-clause-answer g c =
    always_right _ _ _ _ _ _ (ap asked c.in-Branch.is ∙ ap (λ (words : List (String Global)). Always (PostBranch (map string_bytes words)))
    (sym c.as_slice.ensures.value)) c.answer_branch.ensures.answer c.answer_branch.ensures.stays

pub returns-in-Page-clause-answer : goal.returns-in-Page-clause-answer
returns-in-Page-clause-answer g c =
    always_right _ _ _ _ _ _ (ap asked c.in-Page.is) c.answer_page.ensures.answer c.answer_page.ensures.stays

pub returns-in-ListOf-clause-answer : goal.returns-in-ListOf-clause-answer
returns-in-ListOf-clause-answer g c =
    always_right _ _ _ _ _ _ (ap asked c.in-ListOf.is) c.answer_list.ensures.answer c.answer_list.ensures.stays

pub returns-in-Report-clause-crash : goal.returns-in-Report-clause-crash
returns-in-Report-clause-crash g c = asked_as _ _ _ _ _ (ap asked c.in-Report.is) c.answer_report.ensures.crash

pub returns-in-Message-clause-crash : goal.returns-in-Message-clause-crash
returns-in-Message-clause-crash g c = asked_as _ _ _ _ _ (ap asked c.in-Message.is) c.answer_message.ensures.crash

pub returns-in-Once-clause-crash : goal.returns-in-Once-clause-crash
returns-in-Once-clause-crash g c = asked_as _ _ _ _ _ (ap asked c.in-Once.is) c.answer_once.ensures.crash

pub returns-in-Page-clause-crash : goal.returns-in-Page-clause-crash
returns-in-Page-clause-crash g c = asked_as _ _ _ _ _ (ap asked c.in-Page.is) c.answer_page.ensures.crash

pub returns-in-ListOf-clause-crash : goal.returns-in-ListOf-clause-crash
returns-in-ListOf-clause-crash g c = asked_as _ _ _ _ _ (ap asked c.in-ListOf.is) c.answer_list.ensures.crash

pub returns-in-Branch-clause-crash : goal.returns-in-Branch-clause-crash
returns-in-Branch-clause-crash g c =
    asked_as _ _ _ _ _ (ap asked c.in-Branch.is ∙ ap (λ (words : List (String Global)). Always (PostBranch (map string_bytes words)))
    (sym c.as_slice.ensures.value)) c.answer_branch.ensures.crash
