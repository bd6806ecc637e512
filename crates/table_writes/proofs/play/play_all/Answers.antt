use Rattle.std.proofs.Common.{◌≡◌, Err, rules, ◌∙◌}
use Rattle.sqlite.specs.Held.{state}
use Rattle.table_content.specs.declared.edit.Edit.{Edit}
use Rattle.table_schema.proofs.StepLemmas.{left_step, left_stop, edits_stop, edits_end}
use Rattle.table_writes.proofs.play.play_all.Goals as goal

pub returns-in_err-play-clause-plays : goal.returns-in_err-play-clause-plays
returns-in_err-play-clause-plays g c =
    let is : c.from_residual.result ≡ Err c.in_err-play.field-0.0 = search rules in
    rw is (edits_stop c.args.edits.now (state g.S.Store c.args.tx.now.conn.now) (state g.S.Store c.play.new.tx.conn.now) c.in_err-play.field-0.0
    (left_stop (λ (e : Edit). e) c.args.edits.now (state g.S.Store c.args.tx.now.conn.now) (state g.S.Store c.loop-edit.tx.conn.now) (state g.S.Store c.play.new.tx.conn.now)
    c.loop-edit.edit-index c.edit-item.result c.edit-item.result c.in_err-play.field-0.0 c.loop-edit-test.true c.edit-item.is c.loop-edit.invariant.runs c.in_err-play.ensures.plays))

pub loop-edit-preserved : goal.loop-edit-preserved
loop-edit-preserved g c =
    record {
      same = c.play.ensures.same_reference ∙ c.loop-edit.invariant.same;
      runs = left_step (λ (e : Edit). e) c.args.edits.now (state g.S.Store c.args.tx.now.conn.now) (state g.S.Store c.loop-edit.tx.conn.now) (state g.S.Store c.play.new.tx.conn.now)
          c.loop-edit.edit-index c.edit-item.result c.edit-item.result c.loop-edit-test.true c.edit-item.is c.loop-edit.invariant.runs c.in_ok-play.ensures.plays;
    }

pub returns-clause-plays : goal.returns-clause-plays
returns-clause-plays g c =
    edits_end c.args.edits.now (state g.S.Store c.args.tx.now.conn.now) (state g.S.Store c.loop-edit.tx.conn.now) c.loop-edit.edit-index (search rules) c.loop-edit.invariant.runs
