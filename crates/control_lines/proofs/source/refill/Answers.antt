use Rattle.std.proofs.Common.{length, take, ap, ◌∙◌, arith}
use Rattle.std.proofs.lemmas.Grind.{common_steps}
use Rattle.std.proofs.lemmas.List.{drop_all, length-drop, length-take}
use Rattle.control_lines.specs.Buffered.{Buffered}
use Rattle.control_lines.proofs.source.refill.Goals as goal

-- what was read before had been given, so its length is at most the place that was reached
pub returns-in-Err-clause-emptied : goal.returns-in-Err-clause-emptied
returns-in-Err-clause-emptied g c =
    let s = c.source.inside in
    let none = ap (λ (b : Buffered). length b.unread) c.source.view_is ∙ ap length c.requires in
    drop_all s.at (take s.len c.read.new.buf)
    (omega (
      arith,
      none,
      length-drop s.at (take s.len s.buffer),
      length-take s.len s.buffer,
      length-take s.len c.read.new.buf,
      c.source.invariant.0,
      c.source.invariant.1,
    ))

pub returns-in-Ok-clause-counted : goal.returns-in-Ok-clause-counted
returns-in-Ok-clause-counted g c = grind (arith, common_steps)

pub returns-in-Ok-clause-reads : goal.returns-in-Ok-clause-reads
returns-in-Ok-clause-reads g c = grind (arith, common_steps)

pub returns-in-Ok-clause-unasked : goal.returns-in-Ok-clause-unasked
returns-in-Ok-clause-unasked g c = grind (arith, common_steps)
