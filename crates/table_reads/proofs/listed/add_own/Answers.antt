use Rattle.std.proofs.Common.{◌≡◌, ℕ, List, sym, subst}
use Rattle.std.specs.BTreeMap.{get}
use Rattle.std.specs.List.{AllByRecursion}
use Rattle.std.specs.Option.{option_or}
use Rattle.std.specs.Ordering.{nat_cmp}
use Rattle.sqlite.specs.Held.{state}
use Rattle.table_content.specs.Kept.{IsKeptContent}
use Rattle.table_sets.specs.Listed.{keys_in, IsListedSet, AreKeysFor, AreSetsOf}
use Rattle.table_reads.specs.Rows.{row_for}
use Rattle.table_reads.proofs.KeptSteps.{reads_then}
use Rattle.table_reads.proofs.listed.add_own.Goals as goal

pub returns-clause-reads : goal.returns-clause-reads
returns-clause-reads g c =
    let old = state g.S.Store c.args.tx.now.conn.now in
    let mid = state g.S.Store c.read_sets_of.new.tx.conn.now in
    let new = state g.S.Store c.add_sets.new.tx.conn.now in
    reads_then old mid new c.in_ok-sets.sets c.add_sets.result (λ k sets. AreSetsOf c.args.«package».now k sets.items)
    (λ k _. IsKeptContent k → AllByRecursion (IsListedSet k) c.as_slice.result.now → (n : ℕ) →
    get nat_cmp c.add_sets.new.rows n ≡ option_or (row_for k c.args.node.now (keys_in c.as_slice.result.now) n) (get nat_cmp c.args.rows.now n))
    (λ k _. IsKeptContent k → (keys : List ℕ) × AreKeysFor c.args.«package».now k keys × ((n : ℕ) →
    get nat_cmp c.add_sets.new.rows n ≡ option_or (row_for k c.args.node.now keys n) (get nat_cmp c.args.rows.now n)))
    (λ k _ p q kept.
    let are = subst (AreSetsOf c.args.«package».now k) (sym c.as_slice.ensures.value) p in
    (keys_in c.as_slice.result.now, are.keys, q kept are.say))
    c.in_ok-sets.ensures.reads c.add_sets.ensures.reads
