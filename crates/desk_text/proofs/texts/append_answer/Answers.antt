use Rattle.std.proofs.Common.{codes}
use Rattle.desk_text.specs.Texts.{answer_text, refusal_text}
use Rattle.desk_text.proofs.Appends.{alone, same_front, stopped, then_appended}
use Rattle.desk_text.proofs.texts.append_answer.Goals as goal

pub returns-in-Changed : goal.returns-in-Changed
returns-in-Changed c = rw c.in-Changed.is (rw c.as_slice.ensures at c.append_changed.ensures)

pub returns-in_err-append_text-in-Refused : goal.returns-in_err-append_text-in-Refused
returns-in_err-append_text-in-Refused c =
    let a = c.args.out.now.items in
    stopped c.from_residual.result a (answer_text c.args.outcome.now) c.append_text.new.out.items
    c.from_residual.ensures.0 (same_front a _ c.in_err-append_text-in-Refused.ensures.err)
    c.append_text.ensures.utf8

pub returns-in_ok-append_text-in-Refused : goal.returns-in_ok-append_text-in-Refused
returns-in_ok-append_text-in-Refused c =
    rw c.in-Refused.is
    (then_appended c.append_refusal.result c.args.out.now.items (codes "NO ") c.append_text.new.out.items
    (refusal_text c.in-Refused.refusal) c.append_refusal.new.out.items c.in_ok-append_text-in-Refused.ensures.ok
    c.append_text.ensures.utf8 c.append_refusal.ensures)

pub returns-in-Stopped : goal.returns-in-Stopped
returns-in-Stopped c =
    rw c.in-Stopped.is
    (alone c.append_text-in-Stopped.result c.args.out.now.items (codes "Stopped.") c.append_text-in-Stopped.new.out.items
    c.append_text-in-Stopped.ensures)
