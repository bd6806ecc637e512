use Rattle.sqlite.specs.Held.{state}
use Rattle.table_writes.proofs.ReadSteps.{kept_read}
use Rattle.table_writes.proofs.read_back.read_kept.Goals as goal

pub returns-in-Some-clause-reads : goal.returns-in-Some-clause-reads
returns-in-Some-clause-reads g c =
    kept_read c.args.id.now (state g.S.Store c.args.tx.now.conn.now) (state g.S.Store c.read_message.new.tx.conn.now) (state g.S.Store c.read_known.new.tx.conn.now) c.in_ok-sent.field-0 c.in-Some.sent
    c.read_known.result c.in-Some.is c.in_ok-sent.ensures.reads c.read_known.ensures.reads
