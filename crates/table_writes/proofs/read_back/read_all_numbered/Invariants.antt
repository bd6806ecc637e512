use Rattle.std.proofs.Common.{◌≡◌, ◌++◌, drop}
use Rattle.sqlite.specs.Held.{state}
use Rattle.table_content.specs.View.{with_their_numbers}
use Rattle.table_schema.proofs.ReadSteps.{Known}
use Rattle.table_writes.proofs.read_back.read_all_numbered.Given as goal

abbrev pub invariant-loop-one : goal.invariant-loop-one
invariant-loop-one g l =
    record {
      same : l.tx.conn.ghost_name ≡ l.fn.tx.conn.ghost_name;
      known : Known (state g.S.Store l.fn.tx.conn.now) (state g.S.Store l.tx.conn.now)
          (λ c. l.outcomes ++ with_their_numbers (c.outcome_numbers l.id) (drop l.one-index l.told) ≡ with_their_numbers (c.outcome_numbers l.id) l.told);
    }
