use Rattle.table_sets.proofs.Imports.{IsMark, all_marked}
use Rattle.table_schema.proofs.Exports.{◌≡◌, Err, ◌+◌, drop, sym, ap, ◌∙◌, rules, next_at}
use Rattle.table_sets.specs.Marked.{mark_row}
use Rattle.table_sets.specs.declared.marks.Marks.{Marks}
use Rattle.table_sets.proofs.marks.marks_of.Goals as goal

pub returns-in_err-add_row-clause-memory : goal.returns-in_err-add_row-clause-memory
returns-in_err-add_row-clause-memory c ms valid are =
    let told : c.from_residual.result ≡ Err c.in_err-add_row.field-0.0 = search rules in
    let h = next_at mark_row IsMark c.args.rows.now ms c.loop-row.row-index c.row-item.result valid are c.loop-row-test.true c.row-item.is in
    rw told (c.in_err-add_row.ensures.memory h.0 h.2 h.1)

pub loop-row-preserved : goal.loop-row-preserved
loop-row-preserved c ms valid are =
    let h = next_at mark_row IsMark c.args.rows.now ms c.loop-row.row-index c.row-item.result valid are c.loop-row-test.true c.row-item.is in
    ap (λ (s : Marks). all_marked s (drop (c.loop-row.row-index + 1) ms)) (c.in_ok-add_row.ensures.value h.0 h.2 h.1)
    ∙ sym (ap (all_marked c.loop-row.marks) h.3) ∙ c.loop-row.invariant ms valid are
