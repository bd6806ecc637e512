use Rattle.std.proofs.Common.{◌≡◌, ℕ, List, ◌++◌, Result, Ok, refl, sym, ap, ◌∙◌}
use Rattle.std.specs.BTreeMap.{BTreeMap, get, is_at}
use Rattle.std.specs.Map.{lookup}
use Rattle.std.specs.Option.{option_or}
use Rattle.std.specs.Ordering.{nat_cmp}
use Rattle.sqlite.specs.Held.{state}
use Rattle.base_faults.specs.declared.store_fault.StoreFault.{StoreFault}
use Rattle.table_content.specs.Content.{Content}
use Rattle.table_content.specs.Kept.{IsKeptContent}
use Rattle.table_schema.proofs.ReadSteps.{known_first, known_then, known_answer}
use Rattle.bug_record.specs.declared.row.ListRow.{ListRow}
use Rattle.table_sets.specs.Affecting.{AreKeysAffecting}
use Rattle.table_sets.specs.Listed.{AreKeysFor}
use Rattle.table_reads.specs.Keys.{AreKeysToList}
use Rattle.table_reads.specs.Rows.{row_for}
use Rattle.table_reads.proofs.RowSteps.{none_or}
use Rattle.table_reads.proofs.ListedLemmas.{keys_both, row_for_both}
use Rattle.table_reads.proofs.listed.read_rows.Goals as goal

pub returns-clause-reads : goal.returns-clause-reads
returns-clause-reads g c =
    let old = state g.S.Store c.args.tx.now.conn.now in
    let mid = state g.S.Store c.add_own.new.tx.conn.now in
    let new = state g.S.Store c.add_affecting.new.tx.conn.now in
    let v = c.args.node.now in
    let answer : Result (BTreeMap ℕ ListRow) StoreFault = Ok c.add_affecting.new.rows in
    let own : Content → Type 0 =
    λ k. IsKeptContent k → (keys : List ℕ) × AreKeysFor c.args.«package».now k keys × ((n : ℕ) → get nat_cmp c.add_own.new.rows n ≡ option_or (row_for k v keys n) (get nat_cmp c.new-rows.result n)) in
    let more : Content → Type 0 =
    λ k. IsKeptContent k → (keys : List ℕ) × AreKeysAffecting c.args.«package».now k keys × ((n : ℕ) → get nat_cmp c.add_affecting.new.rows n ≡ option_or (row_for k v keys n) (get nat_cmp c.add_own.new.rows n)) in
    known_answer old new answer (λ k. own k × more k)
    (λ k rows. IsKeptContent k → (keys : List ℕ) × AreKeysToList c.args.«package».now k keys × ((n : ℕ) → get nat_cmp rows n ≡ row_for k v keys n))
    (λ k p. (
      λ kept.
          let a = p.0 kept in
          let b = p.1 kept in (
            a.0 ++ b.0,
            keys_both c.args.«package».now k a.0 b.0 (a.0 ++ b.0) a.1 b.1 refl,
            λ n. b.2 n ∙ ap (option_or (row_for k v b.0 n)) (a.2 n ∙ ap (λ (es : List (ℕ × ListRow)). option_or (row_for k v a.0 n) (lookup (is_at (nat_cmp n)) es)) c.new-rows.ensures.empty ∙ none_or (row_for k v a.0 n))
                ∙ sym (row_for_both k v n a.0 b.0),
          ),
      tt,
    ))
    (known_then old mid new tt own (λ k _. more k) (known_first old mid tt (λ k _. own k) c.in_ok-add_own.ensures.reads) c.in_ok-add_affecting.ensures.reads)
