use Rattle.std.proofs.Common.{◌≡◌, Err, rules}
use Rattle.std.specs.Option.{option_copied}
use Rattle.sqlite.specs.Held.{state}
use Rattle.table_writes.proofs.ChangeSteps.{IsWrittenKnown, IsMadeKnown, then_next, unmade_known}
use Rattle.table_writes.proofs.change.put_over.Goals as goal

pub returns-in_err-put_sets-clause-acts : goal.returns-in_err-put_sets-clause-acts
returns-in_err-put_sets-clause-acts g c =
    let is : c.from_residual.result ≡ Err c.in_err-put_sets.field-0.0 = search rules in
    let t = c.args.family.now in
    let known = option_copied c.args.old in
    let change = c.args.change.now in
    rw is (unmade_known t change known (state g.S.Store c.args.tx.now.conn.now) (state g.S.Store c.put_sets.new.tx.conn.now) c.in_err-put_sets.field-0.0 (IsWrittenKnown t change known) (IsMadeKnown t change known)
    c.in_err-put_sets.ensures.acts)

pub returns-clause-acts : goal.returns-clause-acts
returns-clause-acts g c =
    then_next c.args.family.now c.args.change.now (option_copied c.args.old) (state g.S.Store c.args.tx.now.conn.now) (state g.S.Store c.put_sets.new.tx.conn.now) (state g.S.Store c.put_next.new.tx.conn.now)
    c.put_next.result c.in_ok-put_sets.ensures.acts c.put_next.ensures.acts
