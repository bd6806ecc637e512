use Rattle.table_history.proofs.Imports.{IsDeskOf}
use Rattle.table_schema.proofs.Exports.{◌≡◌, Ok, Err, rules, state}
use Rattle.table_history.proofs.CarriedLemmas.{rows_of, later_tables}
use Rattle.table_history.proofs.making.carry_over.Goals as goal

pub returns-in_err-make_steps-clause-carries : goal.returns-in_err-make_steps-clause-carries
returns-in_err-make_steps-clause-carries g c = λ content.
    let fault = c.in_err-make_steps.field-0.0 in
    let is : c.from_residual.result ≡ Err fault = search rules in
    rw is (later_tables g.S.Store c.args.from content c.args.tx.now.conn.now c.make_steps.new.tx.conn.now (Err fault) c.in_err-make_steps.ensures.runs (IsDeskOf content))

pub returns-clause-carries : goal.returns-clause-carries
returns-clause-carries g c = λ content.
    later_tables g.S.Store c.args.from content c.args.tx.now.conn.now c.make_steps.new.tx.conn.now (Ok tt) c.in_ok-make_steps.ensures.runs (IsDeskOf content)
    (state g.S.Store c.set_number.new.tx.conn.now) c.set_number.result
    (c.set_number.ensures.sets c.args.from content (rows_of c.args.from (state g.S.Store c.args.tx.now.conn.now)))
