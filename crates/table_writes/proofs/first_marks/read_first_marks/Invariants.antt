use Rattle.std.proofs.Common.{◌≡◌, ℕ, take}
use Rattle.std.specs.Ordering.{nat_cmp}
use Rattle.std.specs.BTreeMap.{get}
use Rattle.sqlite.specs.Held.{state}
use Rattle.version_marks.specs.Nearest.{nearest_on}
use Rattle.table_schema.proofs.ReadSteps.{Known}
use Rattle.table_writes.proofs.first_marks.read_first_marks.Given as goal

abbrev pub invariant-loop-node : goal.invariant-loop-node
invariant-loop-node g l =
    record {
      same : l.tx.conn.ghost_name ≡ l.fn.tx.conn.ghost_name;
      known : Known (state g.S.Store l.fn.tx.conn.now) (state g.S.Store l.tx.conn.now)
          (λ c. (k : ℕ) → get nat_cmp l.first k ≡ nearest_on (c.found k) (c.fixed k) (take l.node-index l.line));
    }
