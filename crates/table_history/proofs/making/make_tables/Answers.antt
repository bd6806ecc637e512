use Rattle.table_history.proofs.Imports.{IsDeskOf}
use Rattle.table_schema.proofs.Exports.{◌≡◌, Ok, Err, rules, state, no_content}
use Rattle.table_history.proofs.CarriedLemmas.{new_tables}
use Rattle.table_history.proofs.making.make_tables.Goals as goal

pub returns-in_err-make_steps-clause-builds : goal.returns-in_err-make_steps-clause-builds
returns-in_err-make_steps-clause-builds g c =
    let fault = c.in_err-make_steps.field-0.0 in
    let is : c.from_residual.result ≡ Err fault = search rules in
    rw is (new_tables g.S.Store c.args.tx.now.conn.now c.make_steps.new.tx.conn.now (Err fault) c.in_err-make_steps.ensures.runs (IsDeskOf (no_content c.args.first)))

pub returns-clause-builds : goal.returns-clause-builds
returns-clause-builds g c =
    new_tables g.S.Store c.args.tx.now.conn.now c.make_steps.new.tx.conn.now (Ok tt) c.in_ok-make_steps.ensures.runs (IsDeskOf (no_content c.args.first))
    (state g.S.Store c.put_meta.new.tx.conn.now) c.put_meta.result c.put_meta.ensures.builds
