use Rattle.std.proofs.Common.{◌≡◌, Err, rules, ◌∙◌}
use Rattle.sqlite.specs.Held.{state}
use Rattle.table_content.specs.declared.image_edits.RowEdits.{RowEdits}
use Rattle.table_schema.proofs.StepLemmas.{lists_step, lists_stop, lists_end}
use Rattle.table_writes.proofs.change.put_images.Goals as goal

pub returns-in_err-play_all-clause-plays : goal.returns-in_err-play_all-clause-plays
returns-in_err-play_all-clause-plays g c =
    let is : c.from_residual.result ≡ Err c.in_err-play_all.field-0.0 = search rules in
    rw is (lists_stop (λ (p : RowEdits). p.put) c.args.plans.now (state g.S.Store c.args.tx.now.conn.now) (state g.S.Store c.loop-plan.tx.conn.now) (state g.S.Store c.play_all.new.tx.conn.now)
    c.loop-plan.plan-index c.plan-item.result c.plan-item.result c.in_err-play_all.field-0.0 c.loop-plan-test.true c.plan-item.is c.loop-plan.invariant.runs (rw c.as_slice.ensures at c.in_err-play_all.ensures.plays))

pub loop-plan-preserved : goal.loop-plan-preserved
loop-plan-preserved g c =
    record {
      same = c.play_all.ensures.same_reference ∙ c.loop-plan.invariant.same;
      runs = lists_step (λ (p : RowEdits). p.put) c.args.plans.now (state g.S.Store c.args.tx.now.conn.now) (state g.S.Store c.loop-plan.tx.conn.now) (state g.S.Store c.play_all.new.tx.conn.now)
          c.loop-plan.plan-index c.plan-item.result c.plan-item.result c.loop-plan-test.true c.plan-item.is c.loop-plan.invariant.runs (rw c.as_slice.ensures at c.in_ok-play_all.ensures.plays);
    }

pub returns-clause-plays : goal.returns-clause-plays
returns-clause-plays g c =
    lists_end (λ (p : RowEdits). p.put) c.args.plans.now (state g.S.Store c.args.tx.now.conn.now) (state g.S.Store c.loop-plan.tx.conn.now) c.loop-plan.plan-index (search rules) c.loop-plan.invariant.runs
