use Rattle.std.specs.BTreeMap.{get}
use Rattle.std.specs.Ordering.{nat_cmp}
use Rattle.table_reads.proofs.RowSteps.{member_came}
use Rattle.table_reads.proofs.rows.put_rows.Goals as goal

pub loop-member-preserved : goal.loop-member-preserved
loop-member-preserved c = λ n.
    member_came c.args.fields c.args.members.now c.loop-member.member-index n c.member-item.result c.member-item.result (get nat_cmp c.loop-member.rows n) (get nat_cmp c.put_row.new.rows n) _
    c.loop-member-test.true c.member-item.is (c.in_ok-put_row.ensures n) (c.loop-member.invariant n)
