use Rattle.table_sets.proofs.Imports.{mark_row, SetMark}
use Rattle.table_schema.proofs.Exports.{◌≡◌, Err, get_or, ◌++◌, [], ◌∷◌, sym, ap, ◌∙◌, rules, Found, row_at, take_more}
use Rattle.table_sets.proofs.node_marks.marks_in.Goals as goal

abbrev none : SetMark
none = record { key = 0; kind = Found }

pub returns-in_err-mark-clause-memory : goal.returns-in_err-mark-clause-memory
returns-in_err-mark-clause-memory c ms are =
    let told : c.from_residual.result ≡ Err c.in_err-mark.field-0.0 = search rules in
    rw told (c.in_err-mark.ensures.memory (get_or ms c.loop-row.row-index none) (row_at mark_row none c.args.rows.now ms c.loop-row.row-index c.row-item.result c.loop-row-test.true c.row-item.is are))

pub loop-row-preserved : goal.loop-row-preserved
loop-row-preserved c ms are =
    let value = c.in_ok-mark.ensures.value (get_or ms c.loop-row.row-index none) (row_at mark_row none c.args.rows.now ms c.loop-row.row-index c.row-item.result c.loop-row-test.true c.row-item.is are) in
    c.in-Ok.ensures.items ∙ ap (λ m. c.loop-row.marks.items ++ m ∷ []) value ∙ ap (λ before. before ++ get_or ms c.loop-row.row-index none ∷ []) (c.loop-row.invariant ms are)
    ∙ sym (take_more mark_row none c.args.rows.now ms c.loop-row.row-index c.loop-row-test.true are)
