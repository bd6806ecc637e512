use Rattle.std.proofs.Common.{◌≡◌, ◌<◌, true, take, IsTrue}
use Rattle.sqlite.specs.Held.{state}
use Rattle.sqlite.specs.State.{HasCleanDisk}
use Rattle.table_content.specs.Changes.{all_stay}
use Rattle.table_schema.specs.Steps.{IsInside}
use Rattle.table_schema.proofs.ReadSteps.{Known}
use Rattle.table_writes.proofs.marks_stay.read_marks_stay.Given as goal

abbrev pub invariant-loop-image : goal.invariant-loop-image
invariant-loop-image g l =
    record {
      same : l.tx.conn.ghost_name ≡ l.fn.tx.conn.ghost_name;
      known : Known (state g.S.Store l.fn.tx.conn.now) (state g.S.Store l.tx.conn.now) (λ c. all_stay c (take l.image-index l.images) ≡ true);
      served : 0 < l.image-index → HasCleanDisk (state g.S.Store l.tx.conn.now) → IsInside (state g.S.Store l.fn.tx.conn.now) → IsTrue (state g.S.Store l.fn.tx.conn.now).is_open;
    }
