use Rattle.table_sets.proofs.Imports.{member_row, HasUtf8}
use Rattle.table_schema.proofs.Exports.{◌≡◌, Err, get_or, ◌++◌, [], ◌∷◌, sym, ap, ◌∙◌, rules, Member, row_at, take_more, good_at}
use Rattle.table_sets.proofs.bugs.members_of.Goals as goal

abbrev none : Member
none = record { number = 0; title = []; submitter = [] }

pub returns-in_err-member-clause-memory : goal.returns-in_err-member-clause-memory
returns-in_err-member-clause-memory c ms is =
    let told : c.from_residual.result ≡ Err c.in_err-member.field-0.0 = search rules in
    rw told (c.in_err-member.ensures.memory (get_or ms c.loop-row.row-index none)
    (row_at member_row none c.args.rows.now ms c.loop-row.row-index c.row-item.result c.loop-row-test.true c.row-item.is is.are)
    (good_at member_row none HasUtf8 c.args.rows.now ms c.loop-row.row-index c.loop-row-test.true is.are is.good))

pub loop-row-preserved : goal.loop-row-preserved
loop-row-preserved c ms is =
    let value = c.in_ok-member.ensures.value (get_or ms c.loop-row.row-index none) (row_at member_row none c.args.rows.now ms c.loop-row.row-index c.row-item.result c.loop-row-test.true c.row-item.is is.are) in
    c.in-Ok.ensures.ok ∙ ap (λ m. c.loop-row.members ++ m ∷ []) value ∙ ap (λ before. before ++ get_or ms c.loop-row.row-index none ∷ []) (c.loop-row.invariant ms is)
    ∙ sym (take_more member_row none c.args.rows.now ms c.loop-row.row-index c.loop-row-test.true is.are)
