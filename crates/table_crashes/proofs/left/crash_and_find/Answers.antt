use Rattle.table_crashes.proofs.CrashLemmas.{left_open, left_clean}
use Rattle.table_crashes.proofs.left.crash_and_find.Goals as goal

pub returns-in-Some-clause-honest : goal.returns-in-Some-clause-honest
returns-in-Some-clause-honest g c = left_clean g.S.Store c.open_store.result c.args.conn c.in-Some.store c.in-Some.ensures.left c.open_store.ensures.honest

pub returns-in-Some-clause-left : goal.returns-in-Some-clause-left
returns-in-Some-clause-left g c = left_open g.S.Store c.open_store.result c.args.conn c.in-Some.store c.in-Some.ensures.left c.open_store.ensures.honest c.open_store.ensures.opened
