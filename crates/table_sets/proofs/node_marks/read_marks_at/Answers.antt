use Rattle.table_sets.proofs.Imports.{mark_row, SetMark}
use Rattle.table_schema.proofs.Exports.{◌≡◌, List, map, ◌∙◌, Err, rules, ⊤, state, acts_stop, reads_work, answer_is}
use Rattle.table_sets.specs.MarkedAt.{AreMarksAt}
use Rattle.table_sets.proofs.node_marks.read_marks_at.Goals as goal

pub returns-in_err-rows-clause-reads : goal.returns-in_err-rows-clause-reads
returns-in_err-rows-clause-reads g c =
    let is : c.from_residual.result ≡ Err c.in_err-rows.field-0.0 = search rules in
    rw is (acts_stop (state g.S.Store c.args.tx.now.conn.now) (state g.S.Store c.mark_rows.new.tx.conn.now) c.in_err-rows.field-0.0 (λ _. ⊤) _ _ _ (λ _ _. tt) c.in_err-rows.ensures.reads)

pub returns-clause-reads : goal.returns-clause-reads
returns-clause-reads g c =
    reads_work (state g.S.Store c.args.tx.now.conn.now) (state g.S.Store c.mark_rows.new.tx.conn.now) c.in_ok-rows.rows c.marks_in.result (λ _. ⊤)
    (λ k rows. (ms : List SetMark) × (rows.items ≡ map mark_row ms) × AreMarksAt c.args.node.now k ms) (λ k marks. AreMarksAt c.args.node.now k marks.items)
    (λ k p. let is = c.as_slice.ensures.value ∙ p.1 in (answer_is (λ marks. marks.items) (AreMarksAt c.args.node.now k) p.0 c.marks_in.result p.2 (c.marks_in.ensures.value _ is), c.marks_in.ensures.memory _ is)) c.in_ok-rows.ensures.reads
