use Rattle.std.proofs.Common.{sym, ◌∙◌}
use Rattle.store_contract.proofs.HoldsLemmas.{holds_weaker}
use Rattle.test_crashes.proofs.KeepLemmas.{stop_may_be_kept}
use Rattle.test_crashes.proofs.keeps.stop_and_crash.Goals as goal

pub keep_and_crash-done-requires-clause-next : goal.keep_and_crash-done-requires-clause-next
keep_and_crash-done-requires-clause-next g c =
    let b = c.in-Ok.ensures in
    record { earlier = c.args.desk; holds = holds_weaker b.answer.holds (λ p. stop_may_be_kept _ _ _ b.stays (sym c.in-None.is ∙ p.0)) }
