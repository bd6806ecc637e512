use Rattle.table_crashes.proofs.CrashLemmas.{settled_alone}
use Rattle.table_crashes.proofs.laws.settled_desks_are_left.Goals as goal

pub returns : goal.returns
returns g c = settled_alone g.S.Store c.args._desk.now
