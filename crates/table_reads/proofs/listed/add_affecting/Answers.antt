use Rattle.std.proofs.Common.{◌≡◌, ◌<◌, ◌^◌, ℕ, List, sym, subst}
use Rattle.std.specs.BTreeMap.{get}
use Rattle.std.specs.Option.{option_or}
use Rattle.std.specs.Ordering.{nat_cmp}
use Rattle.sqlite.specs.Held.{state}
use Rattle.bug_record.specs.Sets.{Each}
use Rattle.table_content.specs.Kept.{IsKeptContent}
use Rattle.table_sets.specs.Affecting.{AreKeysAffecting}
use Rattle.table_reads.specs.Rows.{row_for}
use Rattle.table_reads.proofs.KeptSteps.{reads_then}
use Rattle.table_reads.proofs.ListedLemmas.{keys_small}
use Rattle.table_reads.proofs.listed.add_affecting.Goals as goal

pub returns-clause-reads : goal.returns-clause-reads
returns-clause-reads g c =
    let old = state g.S.Store c.args.tx.now.conn.now in
    let mid = state g.S.Store c.read_affecting.new.tx.conn.now in
    let new = state g.S.Store c.add_keys.new.tx.conn.now in
    reads_then old mid new c.in_ok-keys.keys c.add_keys.result (AreKeysAffecting c.args.«package».now)
    (λ k _. IsKeptContent k → Each (λ j. j < 2 ^ 32) c.as_slice.result.now → (n : ℕ) →
    get nat_cmp c.add_keys.new.rows n ≡ option_or (row_for k c.args.node.now c.as_slice.result.now n) (get nat_cmp c.args.rows.now n))
    (λ k _. IsKeptContent k → (keys : List ℕ) × AreKeysAffecting c.args.«package».now k keys × ((n : ℕ) →
    get nat_cmp c.add_keys.new.rows n ≡ option_or (row_for k c.args.node.now keys n) (get nat_cmp c.args.rows.now n)))
    (λ k _ p q kept.
    let are = subst (AreKeysAffecting c.args.«package».now k) (sym c.as_slice.ensures) p in
    (c.as_slice.result.now, are, q kept (keys_small k kept c.args.«package».now c.as_slice.result.now are)))
    c.in_ok-keys.ensures.reads c.add_keys.ensures.reads
