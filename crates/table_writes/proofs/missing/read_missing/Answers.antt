use Rattle.std.proofs.Common.{◌≡◌}
use Rattle.std.specs.Prelude.{⊤}
use Rattle.sqlite.specs.Held.{state}
use Rattle.table_content.specs.Kept.{IsKeptContent}
use Rattle.table_content.specs.Branches.{AreMissing}
use Rattle.table_nodes.specs.Grown.{IsGrown}
use Rattle.table_nodes.specs.Missing.{AreRowsOn}
use Rattle.table_nodes.proofs.MissingLemmas.{missing}
use Rattle.table_schema.proofs.StepLemmas.{acts_weaker}
use Rattle.table_writes.proofs.missing.read_missing.Goals as goal

pub returns-clause-reads : goal.returns-clause-reads
returns-clause-reads g c =
    let old = state g.S.Store c.args.tx.now.conn.now in
    let new = state g.S.Store c.read_rows.new.tx.conn.now in
    let u = c.args.family.now in
    let changed = c.args.changed.now in
    let nodes = c.in_ok-nodes.nodes.items in
    acts_weaker old new c.read_rows.result (λ _. ⊤) (λ _. ⊤) (λ x d rows. (d ≡ x) × (IsKeptContent x → AreRowsOn x u nodes rows.items))
    (λ x d rows. (d ≡ x) × (IsKeptContent x → IsGrown x.nodes u changed → AreMissing x u rows.items)) (λ x h. h)
    (λ x d rows p. (p.0, λ kept grown. missing x u changed nodes rows.items kept grown c.in_ok-nodes.ensures.are (p.1 kept)))
    (rw c.as_slice.ensures.value at c.read_rows.ensures.reads)
