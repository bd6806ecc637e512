use Rattle.std.proofs.Common.{inl, Global, ◌≡◌, None, Err, Result, refl, sym, ◌∙◌, ap, subst}
use Rattle.store_contract.proofs.HoldsLemmas.{holds_none, holds_weaker}
use Rattle.version_nodes.specs.Trees.{Ancestry}
use Rattle.base_words.specs.Words.{words}
use Rattle.message_directives.specs.Branches.{BranchRefusal, nodes_of}
use Rattle.message_directives.specs.BranchWords.{AreRead}
use Rattle.desk_run.specs.Script.{From, Branch, ListOf, Show, Bad, standing, branch_text, after_branch}
use Rattle.desk_run.proofs.WrittenLemmas.{appends_none}
use Rattle.desk_run.proofs.PartLemmas.{order_done, order_refused}
use Rattle.message_directives.proofs.BranchLemmas.{branch_of_none}
use Rattle.desk_run.proofs.QuestionLemmas.{question_carried}
use Rattle.desk_run.proofs.TriedLemmas.{parts_settled}
use Rattle.desk_run.proofs.carrying.carry_out.Goals as goal

pub returns-in_ok-run-in-From-clause-answer : goal.returns-in_ok-run-in-From-clause-answer
returns-in_ok-run-in-From-clause-answer g c =
    let s = standing (g.S.Records.desk c.args.store.now) c.args.run.now.sender c.args.run.now.refused in
    let e = ap From c.in_ok-run-in-From.ensures ∙ c.in-From.ensures.value in
    holds_none _ _ _ (order_done c.args.line.now s _ _ _ _ _ e refl refl
    (appends_none (g.W.Write.contents c.args.writer.now)))

pub returns-in-Err-BadNode-clause-answer : goal.returns-in-Err-BadNode-clause-answer
returns-in-Err-BadNode-clause-answer g c =
    let s = standing (g.S.Records.desk c.args.store.now) c.args.run.now.sender c.args.run.now.refused in
    let names = words c.in-Branch.words.now in
    let none : nodes_of names ≡ None =
    subst (λ z. AreRead {A = Global} (nodes_of names) (Err z)) c.in-Err-BadNode.field-0-is c.in-Err-BadNode.ensures in
    let refused = branch_of_none s.desk.tree names none in
    let done = c.refuse.ensures in
    holds_none _ _ _ (order_refused c.args.line.now s _ _ _ _ _ _ (Branch names) c.refuse.result c.in-Branch.ensures.value
    (ap (λ (r : Result Ancestry BranchRefusal). after_branch r s) refused)
    (c.bad_version_answer.ensures ∙ ap branch_text (sym refused)) done.all done.unfinished done.write done.refused
    done.sender)

pub returns-in-Bad-clause-answer : goal.returns-in-Bad-clause-answer
returns-in-Bad-clause-answer g c =
    let s = standing (g.S.Records.desk c.args.store.now) c.args.run.now.sender c.args.run.now.refused in
    let done = c.refuse-in-Bad.ensures in
    holds_none _ _ _ (order_refused c.args.line.now s _ _ _ _ _ _ Bad c.refuse-in-Bad.result c.in-Bad.ensures.value refl
    c.bad_directive_answer.ensures done.all done.unfinished done.write done.refused done.sender)

pub returns-in-ListOf-clause-answer : goal.returns-in-ListOf-clause-answer
returns-in-ListOf-clause-answer g c =
    let s = standing (g.S.Records.desk c.args.store.now) c.args.run.now.sender c.args.run.now.refused in
    let words = c.in-ListOf.words in
    let done = c.answer_question.ensures in
    holds_weaker c.list_of-answer.ensures.answer
    (λ h. question_carried c.args.line.now s _ _ _ _ _ _ (ListOf words.package.now words.version.now) _ _
    c.list_of-answer.result _ c.answer_question.result c.in-ListOf.ensures.value refl refl (λ a. a)
    c.list_of-answer.ensures.count done.sender h done.answer)

pub returns-in-Show-clause-answer : goal.returns-in-Show-clause-answer
returns-in-Show-clause-answer g c =
    let s = standing (g.S.Records.desk c.args.store.now) c.args.run.now.sender c.args.run.now.refused in
    let done = c.answer_question-in-Show.ensures in
    holds_weaker c.page_of-answer.ensures.answer
    (λ h. question_carried c.args.line.now s _ _ _ _ _ _ (Show c.in-Show.number) _ _
    c.page_of-answer.result _ c.answer_question-in-Show.result c.in-Show.ensures.value refl refl (λ a. a)
    c.page_of-answer.ensures.count done.sender h done.answer)

pub returns-in_err-run-in-From-clause-crash : goal.returns-in_err-run-in-From-clause-crash
returns-in_err-run-in-From-clause-crash g c =
    let s = standing (g.S.Records.desk c.args.store.now) c.args.run.now.sender c.args.run.now.refused in
    holds_none _ _ _ (parts_settled g.S.Records.leaves _ _ _ _ s _ _ (λ alone. alone))

pub returns-in-Err-BadNode-clause-crash : goal.returns-in-Err-BadNode-clause-crash
returns-in-Err-BadNode-clause-crash g c =
    let s = standing (g.S.Records.desk c.args.store.now) c.args.run.now.sender c.args.run.now.refused in
    holds_none _ _ _ (parts_settled g.S.Records.leaves _ _ _ _ s _ c.refuse.result (λ alone. alone))

pub returns-in-Err-Memory-clause-crash : goal.returns-in-Err-Memory-clause-crash
returns-in-Err-Memory-clause-crash g c =
    let s = standing (g.S.Records.desk c.args.store.now) c.args.run.now.sender c.args.run.now.refused in
    holds_none _ _ _ (g.S.Records.desk c.args.store.now, inl refl, λ alone. alone)

pub returns-in-Bad-clause-crash : goal.returns-in-Bad-clause-crash
returns-in-Bad-clause-crash g c =
    let s = standing (g.S.Records.desk c.args.store.now) c.args.run.now.sender c.args.run.now.refused in
    holds_none _ _ _ (parts_settled g.S.Records.leaves _ _ _ _ s _ c.refuse-in-Bad.result (λ alone. alone))

pub returns-in-ListOf-clause-crash : goal.returns-in-ListOf-clause-crash
returns-in-ListOf-clause-crash g c =
    let s = standing (g.S.Records.desk c.args.store.now) c.args.run.now.sender c.args.run.now.refused in
    holds_weaker c.list_of-answer.ensures.crash
    (λ x. parts_settled g.S.Records.leaves _ _ _ _ s _ c.answer_question.result x)

pub returns-in-Show-clause-crash : goal.returns-in-Show-clause-crash
returns-in-Show-clause-crash g c =
    let s = standing (g.S.Records.desk c.args.store.now) c.args.run.now.sender c.args.run.now.refused in
    holds_weaker c.page_of-answer.ensures.crash
    (λ x. parts_settled g.S.Records.leaves _ _ _ _ s _ c.answer_question-in-Show.result x)
