use Rattle.std.proofs.Common.{◌++◌, ◌∙◌}
use Rattle.std.proofs.Transfers.{starts_with_of_append}
use Rattle.desk_text.proofs.Appends.{same_front, stopped, then_third}
use Rattle.desk_text.proofs.texts.append_three.Goals as goal

pub returns-in_err-append_text : goal.returns-in_err-append_text
returns-in_err-append_text c =
    let a = c.args.out.now.items in
    stopped c.from_residual.result a (c.args.first.now ++ (c.args.second.now ++ c.args.third.now))
    c.append_text.new.out.items c.from_residual.ensures.0 (same_front a _ c.in_err-append_text.ensures.err)
    c.append_text.ensures.utf8

pub returns-in_err-append_text-2 : goal.returns-in_err-append_text-2
returns-in_err-append_text-2 c =
    let a = c.args.out.now.items in
    let x = c.args.first.now in
    stopped c.from_residual-in_err-append_text-2.result a (x ++ (c.args.second.now ++ c.args.third.now))
    c.append_text-2.new.out.items c.from_residual-in_err-append_text-2.ensures.0
    (starts_with_of_append c.append_text-2.new.out.items a x
    (c.in_err-append_text-2.ensures.err ∙ c.in_ok-append_text.ensures.ok))
    (λ utf8. c.append_text-2.ensures.utf8 (c.append_text.ensures.utf8 utf8))

pub returns : goal.returns
returns c =
    then_third c.append_text-3.result c.args.out.now.items c.args.first.now c.append_text.new.out.items c.args.second.now
    c.append_text-2.new.out.items c.args.third.now c.append_text-3.new.out.items c.in_ok-append_text.ensures.ok
    c.in_ok-append_text-2.ensures.ok (λ utf8. c.append_text-2.ensures.utf8 (c.append_text.ensures.utf8 utf8))
    c.append_text-3.ensures
