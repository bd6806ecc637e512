use Rattle.table_crashes.proofs.CrashLemmas.{either_change, done_change}
use Rattle.table_crashes.proofs.calls.apply_and_crash.Goals as goal

pub returns-clause-either : goal.returns-clause-either
returns-clause-either g c =
    either_change g.S.Store c.args.desk c.apply-done.new.self c.crash_and_open-again.result c.crash_and_open-again.ensures.left c.crash_and_open-again.ensures.honest c.args.change.now
    c.apply-done.ensures.crash c.apply-done.ensures.answer.honest
    (λ kept honest. record { members = c.requires.members; apart = c.requires.apart kept honest; fits = c.requires.fits kept honest })

pub returns-clause-done : goal.returns-clause-done
returns-clause-done g c =
    done_change g.S.Store c.args.desk c.apply-done.new.self c.crash_and_open-again.result c.crash_and_open-again.ensures.left c.crash_and_open-again.ensures.honest g.met.S.Store.settled
    c.args.change.now c.apply-done.result c.apply-done.ensures.answer c.apply-done.ensures.stays c.apply-done.ensures.serves
