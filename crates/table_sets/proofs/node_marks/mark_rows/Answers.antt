use Rattle.table_schema.proofs.Exports.{state, acts_query, serves_query}
use Rattle.table_sets.proofs.MarksAtNode.{marks_read}
use Rattle.table_sets.proofs.node_marks.mark_rows.Goals as goal

pub returns-clause-reads : goal.returns-clause-reads
returns-clause-reads g c =
    rw c.told.ensures.told (acts_query (λ rows. rows.items) _ _ _ (marks_read c.args.node.now) (state g.S.Store c.args.tx.now.conn.now) (state g.S.Store c.query_all.new.self.conn.now) c.query_all.result c.query_all.ensures.survives
    (rw (c.params-to_sql.ensures, c.params-to_sql-2.ensures, c.source.ensures.value, c.version.ensures.value) at c.query_all.ensures.ok)
    (rw (c.params-to_sql.ensures, c.params-to_sql-2.ensures, c.source.ensures.value, c.version.ensures.value) at c.query_all.ensures.err))

pub returns-clause-serves : goal.returns-clause-serves
returns-clause-serves g c =
    rw c.told.ensures.told (serves_query (λ rows. rows.items) _ _ (state g.S.Store c.args.tx.now.conn.now) (state g.S.Store c.query_all.new.self.conn.now) c.query_all.result c.query_all.ensures.ok)
