use Rattle.sqlite.specs.Held.{state}
use Rattle.std.proofs.Common.{◌≡◌, Err, rules}
use Rattle.table_writes.proofs.LineSteps.{line_put, line_failed}
use Rattle.table_writes.proofs.keeping.put_outcome.Goals as goal

pub returns-in_err-edits-clause-acts : goal.returns-in_err-edits-clause-acts
returns-in_err-edits-clause-acts g c =
    let fault = c.in_err-edits.field-0.0 in
    let is : c.from_residual.result ≡ Err fault = search rules in
    rw is (line_failed c.args.id.now c.args.from.now c.args.message.now c.args.place c.args.outcome.now (state g.S.Store c.args.tx.now.conn.now) fault c.in_err-edits.ensures.memory)

pub returns-clause-acts : goal.returns-clause-acts
returns-clause-acts g c =
    line_put c.args.id.now c.args.from.now c.args.message.now c.args.place c.args.outcome.now (state g.S.Store c.args.tx.now.conn.now) (state g.S.Store c.play_or_ask.new.tx.conn.now)
    c.in_ok-edits.edits c.play_or_ask.result c.in_ok-edits.ensures.value (rw c.as_slice.ensures at c.play_or_ask.ensures.plays)
