use Rattle.table_schema.proofs.Exports.{◌≡◌, subst}
use Rattle.std.proofs.Common.{◌<◌}
use Rattle.table_sets.proofs.MemberLemmas.{same_front, same_whole}
use Rattle.table_sets.proofs.bugs.are_rows_of.Goals as goal

pub loop-i-preserved : goal.loop-i-preserved
loop-i-preserved c ms is =
    same_front c.args.rows.now ms c.args.members.now is c.loop-i.i c.index-rows-i.result c.index-members-i.result c.loop-i-test.true
    (subst (λ n. c.loop-i.i < n) c.if-rows-members.false c.loop-i-test.true) c.index-rows-i.is c.index-members-i.is
    (λ m row. c.is_row_of.ensures m row c.if-not-is_row_of.false) (c.loop-i.invariant ms is)

pub returns : goal.returns
returns c = λ ms is yes. same_whole c.args.rows.now ms c.args.members.now is c.loop-i.i c.loop-i-test.false c.if-rows-members.false (c.loop-i.invariant ms is)
