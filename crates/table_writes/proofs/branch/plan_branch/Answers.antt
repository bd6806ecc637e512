use Rattle.sqlite.specs.Held.{state}
use Rattle.table_content.specs.Content.{Content}
use Rattle.table_content.specs.Kept.{IsKeptContent}
use Rattle.table_content.specs.Branches.{AreMissing}
use Rattle.table_nodes.specs.Grown.{IsGrown}
use Rattle.table_schema.proofs.ReadSteps.{known_first, known_answer}
use Rattle.table_writes.specs.Steps.{Makes}
use Rattle.table_writes.proofs.BranchSteps.{says}
use Rattle.table_writes.proofs.branch.plan_branch.Goals as goal

pub returns-clause-reads : goal.returns-clause-reads
returns-clause-reads g c =
    let old = state g.S.Store c.args.tx.now.conn.now in
    let new = state g.S.Store c.read_missing.new.tx.conn.now in
    let u = c.args.family.now in
    let changed = c.args.changed.now in
    let rows = c.in_ok-rows.rows in
    known_answer old new c.edits_of.result (λ x. IsKeptContent x → IsGrown x.nodes u changed → AreMissing x u rows.items)
    (λ x edits. IsKeptContent x → IsGrown x.nodes u changed → Makes u edits x)
    (λ x p. (
      says c.edits_of.result (λ edits. (y : Content) → IsKeptContent y → IsGrown y.nodes u changed → AreMissing y u rows.items → Makes u edits y)
          (λ edits. IsKeptContent x → IsGrown x.nodes u changed → Makes u edits x) (λ edits made kept grown. made x kept grown (p kept grown)) c.edits_of.ensures.made,
      c.edits_of.ensures.memory,
    ))
    (known_first old new rows (λ x rows. IsKeptContent x → IsGrown x.nodes u changed → AreMissing x u rows.items) c.in_ok-rows.ensures.reads)
