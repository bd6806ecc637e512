use Rattle.std.proofs.Common.{◌≡◌, ◌++◌}
use Rattle.sqlite.specs.Held.{state}
use Rattle.table_nodes.specs.Missing.{new_rows}
use Rattle.table_schema.proofs.ReadSteps.{Known}
use Rattle.table_writes.proofs.new_rows.push_new_rows.Given as goal

abbrev pub invariant-loop-key : goal.invariant-loop-key
invariant-loop-key g l =
    record {
      same : l.tx.conn.ghost_name ≡ l.fn.tx.conn.ghost_name;
      known : Known (state g.S.Store l.fn.tx.conn.now) (state g.S.Store l.tx.conn.now)
          (λ c. l.rows.items ++ new_rows c l.node l.key-iterator ≡ l.fn.rows.items ++ new_rows c l.node l.first.entries);
    }
