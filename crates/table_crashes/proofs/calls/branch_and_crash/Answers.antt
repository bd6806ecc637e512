use Rattle.table_crashes.proofs.CrashLemmas.{either_branch, done_branch}
use Rattle.table_crashes.proofs.calls.branch_and_crash.Goals as goal

pub returns-clause-either : goal.returns-clause-either
returns-clause-either g c =
    either_branch g.S.Store c.args.desk c.branch-taken.new.self c.crash_and_open-again.result c.crash_and_open-again.ensures.left c.crash_and_open-again.ensures.honest c.args.nodes.now
    c.branch-taken.ensures.crash

pub returns-clause-done : goal.returns-clause-done
returns-clause-done g c =
    done_branch g.S.Store c.args.desk c.branch-taken.new.self c.crash_and_open-again.result c.crash_and_open-again.ensures.left c.crash_and_open-again.ensures.honest g.met.S.Store.settled
    c.args.nodes.now c.branch-taken.result c.branch-taken.ensures.answer c.branch-taken.ensures.stays c.branch-taken.ensures.serves
