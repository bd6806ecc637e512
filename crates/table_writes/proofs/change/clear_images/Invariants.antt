use Rattle.std.proofs.Common.{◌≡◌, flat_map}
use Rattle.sqlite.specs.Held.{state}
use Rattle.table_content.specs.Free.{AreFree}
use Rattle.table_content.specs.declared.image_edits.RowEdits.{RowEdits}
use Rattle.table_schema.specs.Steps.{Acts}
use Rattle.table_schema.proofs.StepLemmas.{AreLeft, done}
use Rattle.table_writes.proofs.change.clear_images.Given as goal

abbrev pub invariant-loop-plan : goal.invariant-loop-plan
invariant-loop-plan g l =
    record {
      same : l.tx.conn.ghost_name ≡ l.fn.tx.conn.ghost_name;
      runs : Acts (state g.S.Store l.fn.tx.conn.now) (state g.S.Store l.tx.conn.now) done (AreFree (flat_map (λ (p : RowEdits). p.cleared) l.plans)) (λ c d _. AreLeft (λ (p : RowEdits). p.cleared) l.plans l.plan-index c d);
    }
