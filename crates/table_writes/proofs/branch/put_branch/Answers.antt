use Rattle.sqlite.specs.Held.{state}
use Rattle.table_writes.proofs.BranchSteps.{planned_and_made}
use Rattle.table_writes.proofs.branch.put_branch.Goals as goal

pub returns-clause-acts : goal.returns-clause-acts
returns-clause-acts g c =
    let old = state g.S.Store c.args.tx.now.conn.now in
    let mid = state g.S.Store c.plan_branch.new.tx.conn.now in
    let new = state g.S.Store c.play_or_ask.new.tx.conn.now in
    planned_and_made c.args.family.now c.args.changed.now c.in_ok-edits.edits old mid new c.play_or_ask.result c.in_ok-edits.ensures.reads
    (rw c.as_slice.ensures at c.play_or_ask.ensures.plays)
