use Rattle.std.proofs.Common.{◌≡◌, map}
use Rattle.sqlite.specs.Held.{state}
use Rattle.table_content.specs.Free.{AreFree}
use Rattle.table_content.specs.declared.edit.Edit.{Edit}
use Rattle.table_schema.specs.Steps.{Acts}
use Rattle.table_schema.proofs.StepLemmas.{IsLeft, done}
use Rattle.table_writes.proofs.play.play_all.Given as goal

abbrev pub invariant-loop-edit : goal.invariant-loop-edit
invariant-loop-edit g l =
    record {
      same : l.tx.conn.ghost_name ≡ l.fn.tx.conn.ghost_name;
      runs : Acts (state g.S.Store l.fn.tx.conn.now) (state g.S.Store l.tx.conn.now) done (AreFree (map (λ (e : Edit). e) l.edits)) (λ c d _. IsLeft (λ (e : Edit). e) l.edits l.edit-index c d);
    }
