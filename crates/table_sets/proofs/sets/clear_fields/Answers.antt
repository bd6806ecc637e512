use Rattle.table_schema.proofs.Exports.{state, acts_write}
use Rattle.table_sets.proofs.SetStatements.{clear_is}
use Rattle.table_sets.proofs.sets.clear_fields.Goals as goal

pub returns-clause-plays : goal.returns-clause-plays
returns-clause-plays g c =
    rw c.written.ensures.told (acts_write _ _ _ _ (clear_is c.args.key) (state g.S.Store c.args.tx.now.conn.now) (state g.S.Store c.execute.new.self.conn.now) c.execute.result c.execute.ensures.survives
    (rw c.params-to_sql.ensures at c.execute.ensures.runs))
