use Rattle.table_sets.proofs.Imports.{listed_row, ListedSet}
use Rattle.table_schema.proofs.Exports.{◌≡◌, Err, false, get_or, ◌++◌, [], ◌∷◌, sym, ap, ◌∙◌, rules, Critical, row_at, take_more}
use Rattle.table_sets.proofs.listed.sets_in.Goals as goal

abbrev none : ListedSet
none = record { key = 0; fields = record { severity = Critical; closed = false } }

pub returns-in_err-set-clause-memory : goal.returns-in_err-set-clause-memory
returns-in_err-set-clause-memory c ss are =
    let told : c.from_residual.result ≡ Err c.in_err-set.field-0.0 = search rules in
    rw told (c.in_err-set.ensures.memory (get_or ss c.loop-row.row-index none) (row_at listed_row none c.args.rows.now ss c.loop-row.row-index c.row-item.result c.loop-row-test.true c.row-item.is are))

pub loop-row-preserved : goal.loop-row-preserved
loop-row-preserved c ss are =
    let value = c.in_ok-set.ensures.value (get_or ss c.loop-row.row-index none) (row_at listed_row none c.args.rows.now ss c.loop-row.row-index c.row-item.result c.loop-row-test.true c.row-item.is are) in
    c.in-Ok.ensures.items ∙ ap (λ s. c.loop-row.sets.items ++ s ∷ []) value ∙ ap (λ before. before ++ get_or ss c.loop-row.row-index none ∷ []) (c.loop-row.invariant ss are)
    ∙ sym (take_more listed_row none c.args.rows.now ss c.loop-row.row-index c.loop-row-test.true are)
