use Rattle.std.proofs.Common.{List, ℕ, subst, string_bytes}
use Rattle.store_contract.proofs.HoldsLemmas.{holds_weaker}
use Rattle.message_directives.specs.Questions.{list_told, AsksForList, IsTold}
use Rattle.http_requests.specs.Requests.{GetList}
use Rattle.http_answers.specs.Faults.{IsAnswer}
use Rattle.http_requests.specs.Shown.{shown}
use Rattle.http_answers.proofs.AnswerLemmas.{list_right}
use Rattle.http_answers.proofs.CrashLemmas.{question_left}
use Rattle.http_answers.proofs.lists_and_pages.answer_list.Goals as goal

pub returns-clause-answer : goal.returns-clause-answer
returns-clause-answer g c =
    let old = g.S.Records.desk c.args.store.now in
    let new = g.S.Records.desk c.list_of.new.store in
    holds_weaker {P = IsTold (list_told old c.as_str.result.now c.as_str-2.result.now)
    (AsksForList c.as_str.result.now c.as_str-2.result.now) old c.list_of.result new}
    c.list_of.ensures.answer
    (λ h. subst (λ (name : List ℕ). IsAnswer (GetList name (string_bytes c.args.list.now.version)) old c.answer_question.result.fault (shown c.answer_question.result) new)
    c.as_str.ensures.value
    (subst (λ (version : List ℕ). IsAnswer (GetList c.as_str.result.now version) old c.answer_question.result.fault
    (shown c.answer_question.result) new) c.as_str-2.ensures.value
    (list_right c.as_str.result.now c.as_str-2.result.now old new c.list_of.result c.answer_question.result h
    c.answer_question.ensures.is)))

pub returns-clause-crash : goal.returns-clause-crash
returns-clause-crash g c =
    question_left g.S.Records.leaves _ _ _ _ _ _ _ _ c.list_of.ensures.crash c.list_of.ensures.stays
