use Rattle.std.proofs.Common.{◌≡◌, ℕ, List}
use Rattle.std.specs.BTreeMap.{get}
use Rattle.std.specs.Ordering.{nat_cmp}
use Rattle.std.specs.Prelude.{⊤, filter, flat_map}
use Rattle.std.specs.Map.{values_of}
use Rattle.sqlite.specs.Held.{state}
use Rattle.bug_record.specs.Severities.{all_severities}
use Rattle.store_keys.specs.Listing.{is_row_of}
use Rattle.table_content.specs.Kept.{IsKeptContent}
use Rattle.table_content.specs.View.{desk_in}
use Rattle.table_schema.proofs.StepLemmas.{reads_work}
use Rattle.store_contract.specs.Store.{AreListed}
use Rattle.table_reads.specs.Keys.{AreKeysToList}
use Rattle.table_reads.specs.Rows.{row_for}
use Rattle.table_reads.proofs.KeptSteps.{kept_any}
use Rattle.table_reads.proofs.ListedLemmas.{are_listed}
use Rattle.table_reads.proofs.OpenLemmas.{if_same}
use Rattle.table_reads.proofs.listed.read_listed.Goals as goal

pub returns-clause-reads : goal.returns-clause-reads
returns-clause-reads g c =
    let old = state g.S.Store c.args.tx.now.conn.now in
    let new = state g.S.Store c.read_rows.new.tx.conn.now in
    let p = c.args.«package».now in
    let v = c.args.node.now in
    kept_any old new c.sorted.result (λ k rows. IsKeptContent k → AreListed (desk_in k) p v rows) (λ k rows. AreListed (desk_in k) p v rows) (λ k rows kept says. says kept)
    (reads_work old new c.in_ok-rows.rows c.sorted.result (λ _. ⊤)
    (λ k rows. IsKeptContent k → (keys : List ℕ) × AreKeysToList p k keys × ((n : ℕ) → get nat_cmp rows n ≡ row_for k v keys n))
    (λ k rows. IsKeptContent k → AreListed (desk_in k) p v rows)
    (λ k has. (
      if_same c.sorted.result (λ rows. rows ≡ flat_map (λ severity. filter (is_row_of severity) (values_of c.in_ok-rows.rows.entries)) all_severities)
          (λ rows. IsKeptContent k → AreListed (desk_in k) p v rows)
          (λ rows is kept. let h = has kept in are_listed k kept p v h.0 h.1 c.in_ok-rows.rows c.sorted.ensures.ordered h.2 rows is) c.sorted.ensures.value,
      c.sorted.ensures.memory,
    )) c.in_ok-rows.ensures.reads)
