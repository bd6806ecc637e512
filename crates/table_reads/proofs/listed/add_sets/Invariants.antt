use Rattle.std.proofs.Common.{◌≡◌, ℕ, drop}
use Rattle.std.specs.BTreeMap.{get}
use Rattle.std.specs.List.{AllByRecursion}
use Rattle.std.specs.Option.{option_or}
use Rattle.std.specs.Ordering.{nat_cmp}
use Rattle.sqlite.specs.Held.{state}
use Rattle.table_content.specs.Kept.{IsKeptContent}
use Rattle.table_schema.proofs.ReadSteps.{Known}
use Rattle.table_sets.specs.Listed.{keys_in, IsListedSet}
use Rattle.table_reads.specs.Rows.{row_for}
use Rattle.table_reads.proofs.listed.add_sets.Given as goal

-- with those of the sets that are left the rows are the whole ones
abbrev pub invariant-loop-set : goal.invariant-loop-set
invariant-loop-set g l =
    record {
      same : l.tx.conn.ghost_name ≡ l.fn.tx.conn.ghost_name;
      known : Known (state g.S.Store l.fn.tx.conn.now) (state g.S.Store l.tx.conn.now)
          (λ c. IsKeptContent c → AllByRecursion (IsListedSet c) l.sets → (n : ℕ) →
          option_or (row_for c l.node (keys_in (drop l.set-index l.sets)) n) (get nat_cmp l.rows n) ≡ option_or (row_for c l.node (keys_in l.sets) n) (get nat_cmp l.fn.rows n));
    }
