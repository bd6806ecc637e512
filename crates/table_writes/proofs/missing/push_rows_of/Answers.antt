use Rattle.sqlite.specs.Held.{state}
use Rattle.table_writes.proofs.RowSteps.{rows_added}
use Rattle.table_writes.proofs.missing.push_rows_of.Goals as goal

pub returns-clause-reads : goal.returns-clause-reads
returns-clause-reads g c =
    let old = state g.S.Store c.args.tx.now.conn.now in
    let mid = state g.S.Store c.read_first_marks.new.tx.conn.now in
    let new = state g.S.Store c.push_new_rows.new.tx.conn.now in
    rows_added c.args.family.now c.args.node.now c.in_ok-first.first c.args.rows.now.items c.push_new_rows.new.rows.items old mid new c.push_new_rows.result
    c.push_new_rows.ensures.ordered (rw (c.as_slice.ensures.value, c.in_ok-line.ensures.value) at c.in_ok-first.ensures.reads) c.push_new_rows.ensures.reads
