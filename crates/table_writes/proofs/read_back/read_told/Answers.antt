use Rattle.sqlite.specs.Held.{state}
use Rattle.table_writes.proofs.ReadSteps.{told_read}
use Rattle.table_writes.proofs.read_back.read_told.Goals as goal

pub returns-clause-reads : goal.returns-clause-reads
returns-clause-reads g c =
    told_read c.args.id.now (state g.S.Store c.args.tx.now.conn.now) (state g.S.Store c.read_outcomes.new.tx.conn.now) (state g.S.Store c.read_all_numbered.new.tx.conn.now) c.in_ok-told.told
    c.read_all_numbered.result c.in_ok-told.ensures.reads (rw c.as_slice.ensures at c.read_all_numbered.ensures.reads)
