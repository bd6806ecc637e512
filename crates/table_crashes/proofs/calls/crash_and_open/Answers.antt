use Rattle.std.proofs.Common.{IfSome, subst}
use Rattle.sqlite.specs.Held.{state}
use Rattle.sqlite.specs.State.{HasCleanDisk}
use Rattle.sqlite_trees.specs.Tree.{Trees}
use Rattle.table_crashes.specs.Settled.{HasHonestDisk, IsOpenedOver}
use Rattle.table_crashes.proofs.CrashLemmas.{settled_then, found_then}
use Rattle.table_crashes.proofs.calls.crash_and_open.Goals as goal

pub returns-clause-honest : goal.returns-clause-honest
returns-clause-honest g c =
    subst (λ h. IfSome c.crash_and_find.result (λ again. HasHonestDisk g.S.Store again → HasCleanDisk (state g.S.Store h))) c.close.ensures.conn c.crash_and_find.ensures.honest

pub returns-clause-left : goal.returns-clause-left
returns-clause-left g c =
    subst (λ h. IfSome c.crash_and_find.result (λ again. HasHonestDisk g.S.Store again → (db : Trees) × (state g.S.Store h).may_leave db × IsOpenedOver g.S.Store db again)) c.close.ensures.conn
    c.crash_and_find.ensures.left

pub returns-clause-settled : goal.returns-clause-settled
returns-clause-settled g c = settled_then g.S.Store c.crash_and_find.result c.args.desk (returns-clause-left g c)

pub returns-clause-either : goal.returns-clause-either
returns-clause-either g c = found_then g.S.Store c.crash_and_find.result c.args.desk (returns-clause-left g c)
