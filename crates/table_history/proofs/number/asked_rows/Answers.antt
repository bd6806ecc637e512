use Rattle.table_schema.proofs.Exports.{state}
use Rattle.table_history.proofs.NumberAnswers.{reads_rows}
use Rattle.table_history.proofs.number.asked_rows.Goals as goal

pub returns-clause-reads : goal.returns-clause-reads
returns-clause-reads g c =
    rw (c.unless_foreign.ensures.told, c.told.ensures.told) (reads_rows (state g.S.Store c.args.tx.now.conn.now) (state g.S.Store c.query_all.new.self.conn.now) (λ rows. rows.items) c.query_all.ensures.survives
    c.query_all.result c.query_all.ensures.ok c.query_all.ensures.err)
