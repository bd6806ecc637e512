use Rattle.std.proofs.Common.{◌≡◌, ◌<◌, ◌^◌, ℕ, drop}
use Rattle.std.specs.BTreeMap.{get}
use Rattle.std.specs.Option.{option_or}
use Rattle.std.specs.Ordering.{nat_cmp}
use Rattle.sqlite.specs.Held.{state}
use Rattle.bug_record.specs.Sets.{Each}
use Rattle.table_content.specs.Kept.{IsKeptContent}
use Rattle.table_schema.proofs.ReadSteps.{Known}
use Rattle.table_reads.specs.Rows.{row_for}
use Rattle.table_reads.proofs.listed.add_keys.Given as goal

-- with those of the keys that are left the rows are the whole ones
abbrev pub invariant-loop-key : goal.invariant-loop-key
invariant-loop-key g l =
    record {
      same : l.tx.conn.ghost_name ≡ l.fn.tx.conn.ghost_name;
      known : Known (state g.S.Store l.fn.tx.conn.now) (state g.S.Store l.tx.conn.now)
          (λ c. IsKeptContent c → Each (λ k. k < 2 ^ 32) l.keys → (n : ℕ) →
          option_or (row_for c l.node (drop l.key-index l.keys) n) (get nat_cmp l.rows n) ≡ option_or (row_for c l.node l.keys n) (get nat_cmp l.fn.rows n));
    }
