use Rattle.table_history.proofs.Imports.{RunsStep}
use Rattle.table_schema.proofs.Exports.{◌≡◌, Ok, Err, map, rules, ◌∙◌}
use Rattle.table_history.proofs.StepLemmas.{turn_done, turn_failed, turns_end}
use Rattle.table_history.proofs.making.make_steps.Goals as goal

pub loop-place-preserved : goal.loop-place-preserved
loop-place-preserved g c = record {
  same_reference = c.in_ok-make_step.ensures.same_reference ∙ c.loop-place.invariant.same_reference;
  runs = λ new r rest. c.loop-place.invariant.runs new r
      (turn_done (RunsStep g.S.Store) (λ step. map (λ sql. sql.now) step.now) c.args.steps.now c.loop-place.place _ c.loop-place-test.true c.loop-place.tx.conn.now c.make_step.new.tx.conn.now c.in_ok-make_step.ensures.runs new r rest);
}

pub returns-in_err-make_step-clause-runs : goal.returns-in_err-make_step-clause-runs
returns-in_err-make_step-clause-runs g c =
    let fault = c.in_err-make_step.field-0.0 in
    let is : c.from_residual.result ≡ Err fault = search rules in
    rw is (c.loop-place.invariant.runs c.make_step.new.tx.conn.now (Err fault)
    (turn_failed (RunsStep g.S.Store) (λ step. map (λ sql. sql.now) step.now) c.args.steps.now c.loop-place.place _ c.loop-place-test.true c.loop-place.tx.conn.now c.make_step.new.tx.conn.now fault c.in_err-make_step.ensures.runs))

pub returns-clause-runs : goal.returns-clause-runs
returns-clause-runs g c =
    c.loop-place.invariant.runs c.loop-place.tx.conn.now (Ok tt)
    (turns_end (RunsStep g.S.Store) (λ step. map (λ sql. sql.now) step.now) c.args.steps.now c.loop-place.place c.loop-place.tx.conn.now c.loop-place-test.false)
