use Rattle.std.proofs.Common.{◌≡◌, drop, []}
use Rattle.sqlite.specs.Held.{state}
use Rattle.bug_record.specs.Sets.{with_items}
use Rattle.table_schema.proofs.ReadSteps.{Known}
use Rattle.table_reads.specs.Bugs.{bugs_of}
use Rattle.table_reads.proofs.waiting.read_sets.Given as goal

abbrev pub invariant-loop-key : goal.invariant-loop-key
invariant-loop-key g l =
    record {
      same : l.tx.conn.ghost_name ≡ l.fn.tx.conn.ghost_name;
      known : Known (state g.S.Store l.fn.tx.conn.now) (state g.S.Store l.tx.conn.now)
          (λ c. with_items (λ n. n) l.numbers.keys (bugs_of c (drop l.key-index l.keys)) ≡ with_items (λ n. n) [] (bugs_of c l.keys));
    }
