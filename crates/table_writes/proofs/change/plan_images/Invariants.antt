use Rattle.std.proofs.Common.{◌≡◌, take}
use Rattle.sqlite.specs.Held.{state}
use Rattle.table_schema.proofs.ReadSteps.{Known}
use Rattle.table_writes.specs.Plans.{ArePlans}
use Rattle.table_writes.proofs.change.plan_images.Given as goal

abbrev pub invariant-loop-image : goal.invariant-loop-image
invariant-loop-image g l =
    record {
      same : l.tx.conn.ghost_name ≡ l.fn.tx.conn.ghost_name;
      known : Known (state g.S.Store l.fn.tx.conn.now) (state g.S.Store l.tx.conn.now) (λ c. ArePlans c l.family (take l.image-index l.images) l.plans.items);
    }
