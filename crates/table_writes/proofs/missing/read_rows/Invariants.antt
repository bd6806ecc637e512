use Rattle.std.proofs.Common.{◌≡◌, take}
use Rattle.sqlite.specs.Held.{state}
use Rattle.table_content.specs.Kept.{IsKeptContent}
use Rattle.table_nodes.specs.Missing.{AreRowsOn}
use Rattle.table_schema.proofs.ReadSteps.{Known}
use Rattle.table_writes.proofs.missing.read_rows.Given as goal

abbrev pub invariant-loop-node : goal.invariant-loop-node
invariant-loop-node g l =
    record {
      same : l.tx.conn.ghost_name ≡ l.fn.tx.conn.ghost_name;
      known : Known (state g.S.Store l.fn.tx.conn.now) (state g.S.Store l.tx.conn.now)
          (λ c. IsKeptContent c → AreRowsOn c l.family (take l.node-index l.nodes) l.rows.items);
    }
