use Rattle.std.proofs.Common.{◌≡◌, drop}
use Rattle.std.specs.List.{find}
use Rattle.sqlite.specs.Held.{state}
use Rattle.table_schema.proofs.ReadSteps.{Known}
use Rattle.table_reads.specs.Found.{is_found_at}
use Rattle.table_reads.proofs.heads.find_open.Given as goal

abbrev pub invariant-loop-node : goal.invariant-loop-node
invariant-loop-node g l =
    record {
      same : l.tx.conn.ghost_name ≡ l.fn.tx.conn.ghost_name;
      known : Known (state g.S.Store l.fn.tx.conn.now) (state g.S.Store l.tx.conn.now)
          (λ c. find (λ v. is_found_at c l.key v l.image.shared) (drop l.node-index l.nodes) ≡ find (λ v. is_found_at c l.key v l.image.shared) l.nodes);
    }
