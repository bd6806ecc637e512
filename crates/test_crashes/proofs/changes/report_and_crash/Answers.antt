use Rattle.std.proofs.Common.{sym, ap, ◌∙◌}
use Rattle.bug_record.specs.Desk.{Desk}
use Rattle.test_crashes.proofs.changes.report_and_crash.Goals as goal

pub apply_and_crash-done-requires-clause-fits : goal.apply_and_crash-done-requires-clause-fits
apply_and_crash-done-requires-clause-fits g c kept honest =
    let b = c.in-Ok.ensures.answer in
    let p = b.holds.fact (b.was_kept kept honest) honest in
    c.in-Ok-report_change.ensures.fits _ kept.content.sound (sym (p.0 ∙ ap (λ (z : Desk). z.next) (sym p.1)))
