use Rattle.table_schema.proofs.Exports.{state}
use Rattle.table_history.proofs.BuildLemmas.{builds_write}
use Rattle.table_history.proofs.MetaRow.{put_is}
use Rattle.table_history.proofs.making.put_meta.Goals as goal

pub returns-clause-builds : goal.returns-clause-builds
returns-clause-builds g c =
    rw c.written.ensures.told (builds_write _ _ _ _ (put_is c.args.first) (state g.S.Store c.args.tx.now.conn.now) (state g.S.Store c.execute.new.self.conn.now) c.execute.result c.execute.ensures.survives
    (rw c.params-to_sql.ensures at c.execute.ensures.runs))
