use Rattle.std.proofs.Common.{codes}
use Rattle.desk_text.specs.Texts.{as_line, echo, answer_text, outcome_text}
use Rattle.desk_text.proofs.Appends.{front_within, stopped, then_third}
use Rattle.desk_text.proofs.texts.append_outcome.Goals as goal

pub returns-in_err-append_echo : goal.returns-in_err-append_echo
returns-in_err-append_echo c =
    stopped c.from_residual.result c.args.out.now.items (outcome_text c.args.line.now c.args.outcome.now)
    c.append_echo.new.out.items c.from_residual.ensures.0 c.in_err-append_echo.ensures.err c.append_echo.ensures.utf8

pub returns-in_err-append_answer : goal.returns-in_err-append_answer
returns-in_err-append_answer c =
    let a = c.args.out.now.items in
    stopped c.from_residual-in_err-append_answer.result a (outcome_text c.args.line.now c.args.outcome.now)
    c.append_answer.new.out.items c.from_residual-in_err-append_answer.ensures.0
    (front_within a (as_line (echo c.args.line.now)) c.append_echo.new.out.items c.append_answer.new.out.items
    c.in_ok-append_echo.ensures.ok c.in_err-append_answer.ensures.err)
    (λ utf8. c.append_answer.ensures.utf8 (c.append_echo.ensures.utf8 utf8))

pub returns : goal.returns
returns c =
    then_third c.append_text.result c.args.out.now.items (as_line (echo c.args.line.now)) c.append_echo.new.out.items
    (answer_text c.args.outcome.now) c.append_answer.new.out.items (codes "\n") c.append_text.new.out.items
    c.in_ok-append_echo.ensures.ok c.in_ok-append_answer.ensures.ok
    (λ utf8. c.append_answer.ensures.utf8 (c.append_echo.ensures.utf8 utf8)) c.append_text.ensures
