use Rattle.std.proofs.Common.{◌≡◌, Err, rules}
use Rattle.std.specs.Option.{option_copied}
use Rattle.sqlite.specs.Held.{state}
use Rattle.table_writes.proofs.LineSteps.{both_put, both_failed}
use Rattle.table_writes.proofs.keeping.put_both.Goals as goal

pub returns-in_err-put_change-clause-acts : goal.returns-in_err-put_change-clause-acts
returns-in_err-put_change-clause-acts g c =
    let is : c.from_residual.result ≡ Err c.in_err-put_change.field-0.0 = search rules in
    rw is (both_failed c.args.id.now c.args.from.now c.args.message.now c.args.place c.args.outcome.now (option_copied c.args.old) (option_copied c.args.family) c.args.change.now (state g.S.Store c.args.tx.now.conn.now) (state g.S.Store c.put_change.new.tx.conn.now)
    c.in_err-put_change.field-0.0 c.in_err-put_change.ensures.acts)

pub returns-clause-acts : goal.returns-clause-acts
returns-clause-acts g c =
    both_put c.args.id.now c.args.from.now c.args.message.now c.args.place c.args.outcome.now (option_copied c.args.old) (option_copied c.args.family) c.args.change.now (state g.S.Store c.args.tx.now.conn.now) (state g.S.Store c.put_change.new.tx.conn.now)
    (state g.S.Store c.put_outcome.new.tx.conn.now) c.put_outcome.result c.in_ok-put_change.ensures.acts c.put_outcome.ensures.acts
