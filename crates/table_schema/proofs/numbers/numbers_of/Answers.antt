use Rattle.table_schema.proofs.Imports.{◌≡◌, Err, get_or, ◌++◌, [], ◌∷◌, sym, ap, ◌∙◌, rules, number_at, take_next}
use Rattle.table_schema.proofs.numbers.numbers_of.Goals as goal

pub returns-in_err-number-clause-memory : goal.returns-in_err-number-clause-memory
returns-in_err-number-clause-memory c ns is =
    let told : c.from_residual.result ≡ Err c.in_err-number.field-0.0 = search rules in
    rw told (c.in_err-number.ensures.memory (get_or ns c.loop-row.row-index 0) (number_at c.args.rows.now ns c.loop-row.row-index c.row-item.result c.loop-row-test.true c.row-item.is is))

pub loop-row-preserved : goal.loop-row-preserved
loop-row-preserved c ns is =
    let value = c.in_ok-number.ensures.value (get_or ns c.loop-row.row-index 0) (number_at c.args.rows.now ns c.loop-row.row-index c.row-item.result c.loop-row-test.true c.row-item.is is) in
    c.in-Ok.ensures.ok ∙ ap (λ n. c.loop-row.numbers ++ n ∷ []) value ∙ ap (λ ms. ms ++ get_or ns c.loop-row.row-index 0 ∷ []) (c.loop-row.invariant ns is) ∙ sym (take_next c.args.rows.now ns c.loop-row.row-index c.loop-row-test.true is)
