use Rattle.table_history.proofs.Imports.{RunsSteps}
use Rattle.table_schema.proofs.Exports.{◌≡◌, Result, drop, map, Held, StoreFault}
use Rattle.table_history.proofs.making.make_steps.Given as goal

-- what the steps that are left come to, all come to
abbrev pub invariant-loop-place : goal.invariant-loop-place
invariant-loop-place g l = record {
  same_reference : l.tx.conn.ghost_name ≡ l.fn.tx.conn.ghost_name;
  runs : (new : Held _) (r : Result (Unit {0}) StoreFault) → RunsSteps g.S.Store (drop l.place (map (λ step. map (λ sql. sql.now) step.now) l.steps)) l.tx.conn.now new r → RunsSteps g.S.Store (drop l.fn.from (map (λ step. map (λ sql. sql.now) step.now) l.fn.steps)) l.fn.tx.conn.now new r;
}
