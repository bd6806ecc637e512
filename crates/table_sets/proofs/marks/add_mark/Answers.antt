use Rattle.table_schema.proofs.Exports.{state, acts_write, serves_write}
use Rattle.table_sets.proofs.MarkStatements.{add_is}
use Rattle.table_sets.proofs.marks.add_mark.Goals as goal

pub returns-clause-plays : goal.returns-clause-plays
returns-clause-plays g c =
    rw c.written.ensures.told (acts_write _ _ _ _ (add_is c.args.key c.args.kind c.args.node.now c.source.ensures.valid) (state g.S.Store c.args.tx.now.conn.now) (state g.S.Store c.execute.new.self.conn.now) c.execute.result c.execute.ensures.survives
    (rw (c.params-to_sql.ensures, c.params-to_sql-2.ensures, c.params-to_sql-3.ensures, c.params-to_sql-4.ensures, c.number_of_kind.ensures, c.source.ensures.value, c.version.ensures.value) at c.execute.ensures.runs))

pub returns-clause-serves : goal.returns-clause-serves
returns-clause-serves g c =
    rw c.written.ensures.told (serves_write _ _ (state g.S.Store c.args.tx.now.conn.now) (state g.S.Store c.execute.new.self.conn.now) c.execute.result c.execute.ensures.runs)
