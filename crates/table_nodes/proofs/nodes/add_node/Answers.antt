use Rattle.table_schema.proofs.Exports.{state, acts_write, serves_write, maybe_bound}
use Rattle.table_nodes.proofs.NodeStatements.{add_is}
use Rattle.table_nodes.proofs.nodes.add_node.Goals as goal

pub returns-clause-plays : goal.returns-clause-plays
returns-clause-plays g c =
    rw c.written.ensures.told (acts_write _ _ _ _ (add_is c.args.node.now c.args.parent.now c.source.ensures.valid c.source_of.ensures.valid) (state g.S.Store c.args.tx.now.conn.now) (state g.S.Store c.execute.new.self.conn.now) c.execute.result c.execute.ensures.survives
    (rw (
      c.params-to_sql.ensures,
      c.params-to_sql-2.ensures,
      c.params-to_sql-3.ensures,
      c.params-to_sql-4.ensures,
      c.source.ensures.value,
      c.version.ensures.value,
      maybe_bound c.source_of.result _ c.source_of.ensures.value,
      maybe_bound c.version_of.result _ c.version_of.ensures.value,
    ) at c.execute.ensures.runs))

pub returns-clause-serves : goal.returns-clause-serves
returns-clause-serves g c =
    rw c.written.ensures.told (serves_write _ _ (state g.S.Store c.args.tx.now.conn.now) (state g.S.Store c.execute.new.self.conn.now) c.execute.result c.execute.ensures.runs)
