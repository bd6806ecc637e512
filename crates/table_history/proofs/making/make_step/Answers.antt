use Rattle.table_history.proofs.Imports.{RunsText}
use Rattle.table_schema.proofs.Exports.{◌≡◌, Err, rules, ◌∙◌}
use Rattle.table_history.proofs.StepLemmas.{turn_done, turn_failed}
use Rattle.table_history.proofs.making.make_step.Goals as goal

pub loop-sql-preserved : goal.loop-sql-preserved
loop-sql-preserved g c = record {
  same_reference = c.in_ok-make.ensures.same_reference ∙ c.loop-sql.invariant.same_reference;
  runs = λ new r rest. c.loop-sql.invariant.runs new r
      (turn_done (RunsText g.S.Store) (λ sql. sql.now) c.args.step.now c.loop-sql.sql-index _ c.loop-sql-test.true c.loop-sql.tx.conn.now c.make.new.tx.conn.now c.in_ok-make.ensures.runs new r rest);
}

pub returns-in_err-make-clause-runs : goal.returns-in_err-make-clause-runs
returns-in_err-make-clause-runs g c =
    let fault = c.in_err-make.field-0.0 in
    let is : c.from_residual.result ≡ Err fault = search rules in
    rw is (c.loop-sql.invariant.runs c.make.new.tx.conn.now (Err fault)
    (turn_failed (RunsText g.S.Store) (λ sql. sql.now) c.args.step.now c.loop-sql.sql-index _ c.loop-sql-test.true c.loop-sql.tx.conn.now c.make.new.tx.conn.now fault c.in_err-make.ensures.runs))
