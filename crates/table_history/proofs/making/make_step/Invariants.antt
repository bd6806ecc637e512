use Rattle.table_history.proofs.Imports.{RunsStep}
use Rattle.table_schema.proofs.Exports.{◌≡◌, Result, drop, map, Held, StoreFault}
use Rattle.table_history.proofs.making.make_step.Given as goal

-- what the texts that are left come to, all come to
abbrev pub invariant-loop-sql : goal.invariant-loop-sql
invariant-loop-sql g l = record {
  same_reference : l.tx.conn.ghost_name ≡ l.fn.tx.conn.ghost_name;
  runs : (new : Held _) (r : Result (Unit {0}) StoreFault) → RunsStep g.S.Store (drop l.sql-index (map (λ sql. sql.now) l.step)) l.tx.conn.now new r → RunsStep g.S.Store (map (λ sql. sql.now) l.fn.step) l.fn.tx.conn.now new r;
}
