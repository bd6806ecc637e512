use Rattle.table_nodes.proofs.Imports.{link_row, IsLink}
use Rattle.table_schema.proofs.Exports.{◌≡◌, Option, None, Err, get_or, ◌++◌, [], ◌∷◌, sym, ap, ◌∙◌, rules, Node, row_at, take_more, good_at}
use Rattle.table_nodes.proofs.family.links_of.Goals as goal

abbrev none : Node × Option Node
none = (record { source = []; version = [] }, None)

pub returns-in_err-link-clause-memory : goal.returns-in_err-link-clause-memory
returns-in_err-link-clause-memory c ls valid are =
    let told : c.from_residual.result ≡ Err c.in_err-link.field-0.0 = search rules in
    rw told (c.in_err-link.ensures.memory (get_or ls c.loop-row.row-index none)
    (good_at link_row none IsLink c.args.rows.now ls c.loop-row.row-index c.loop-row-test.true are valid)
    (row_at link_row none c.args.rows.now ls c.loop-row.row-index c.row-item.result c.loop-row-test.true c.row-item.is are))

pub loop-row-preserved : goal.loop-row-preserved
loop-row-preserved c ls valid are =
    let value = c.in_ok-link.ensures.value (get_or ls c.loop-row.row-index none)
    (good_at link_row none IsLink c.args.rows.now ls c.loop-row.row-index c.loop-row-test.true are valid)
    (row_at link_row none c.args.rows.now ls c.loop-row.row-index c.row-item.result c.loop-row-test.true c.row-item.is are) in
    c.in-Ok.ensures.items ∙ ap (λ l. c.loop-row.links.items ++ l ∷ []) value
    ∙ ap (λ before. before ++ get_or ls c.loop-row.row-index none ∷ []) (c.loop-row.invariant ls valid are)
    ∙ sym (take_more link_row none c.args.rows.now ls c.loop-row.row-index c.loop-row-test.true are)
