use Rattle.table_nodes.proofs.Imports.{outcome_row, IsToldOutcome}
use Rattle.table_schema.proofs.Exports.{◌≡◌, Err, get_or, ◌++◌, [], ◌∷◌, sym, ap, ◌∙◌, rules, Stopped, ToldOutcome, row_at, take_more, good_at}
use Rattle.table_nodes.proofs.outcomes.outcomes_of.Goals as goal

abbrev none : ToldOutcome
none = record { place = 0; outcome = Stopped }

pub returns-in_err-outcome-clause-memory : goal.returns-in_err-outcome-clause-memory
returns-in_err-outcome-clause-memory c ts is =
    let told : c.from_residual.result ≡ Err c.in_err-outcome.field-0.0 = search rules in
    rw told (c.in_err-outcome.ensures.memory (get_or ts c.loop-row.row-index none)
    (good_at outcome_row none IsToldOutcome c.args.rows.now ts c.loop-row.row-index c.loop-row-test.true is.are is.good)
    (row_at outcome_row none c.args.rows.now ts c.loop-row.row-index c.row-item.result c.loop-row-test.true c.row-item.is is.are))

pub loop-row-preserved : goal.loop-row-preserved
loop-row-preserved c ts is =
    let value = c.in_ok-outcome.ensures.value (get_or ts c.loop-row.row-index none)
    (good_at outcome_row none IsToldOutcome c.args.rows.now ts c.loop-row.row-index c.loop-row-test.true is.are is.good)
    (row_at outcome_row none c.args.rows.now ts c.loop-row.row-index c.row-item.result c.loop-row-test.true c.row-item.is is.are) in
    c.in-Ok.ensures.ok ∙ ap (λ t. c.loop-row.outcomes ++ t ∷ []) value ∙ ap (λ before. before ++ get_or ts c.loop-row.row-index none ∷ []) (c.loop-row.invariant ts is)
    ∙ sym (take_more outcome_row none c.args.rows.now ts c.loop-row.row-index c.loop-row-test.true is.are)
