use Rattle.table_schema.proofs.Exports.{◌≡◌, ◌+◌, Some, Err, sym, ap, ◌∙◌, rules, arith, column}
use Rattle.table_nodes.proofs.NodeCells.{no_node, node_there}
use Rattle.table_nodes.proofs.outcomes.maybe_node_at.Goals as goal

pub returns-in_err-is_null-clause-memory : goal.returns-in_err-is_null-clause-memory
returns-in_err-is_null-clause-memory c v low valid source version =
    let told : c.from_residual.result ≡ Err c.in_err-is_null.field-0.0 = search rules in
    rw told (c.in_err-is_null.ensures.memory (omega (arith, low)))

pub returns-then-is_null-clause-value : goal.returns-then-is_null-clause-value
returns-then-is_null-clause-value c v valid source version =
    no_node v (column c.args.row.now c.args.at) (c.in_ok-is_null.ensures.null c.if-is_null.true) source

pub returns-in-Ok-clause-value : goal.returns-in-Ok-clause-value
returns-in-Ok-clause-value c v valid source version =
    let other = c.in_ok-is_null.ensures.other c.if-is_null.false in
    let p = node_there v (column c.args.row.now c.args.at) (column c.args.row.now (c.args.at + 1)) valid other source version in
    ap Some (c.in-Ok.ensures.value p.node p.valid p.source_is p.version_is) ∙ sym p.is

pub returns-in-Err-clause-memory : goal.returns-in-Err-clause-memory
returns-in-Err-clause-memory c v low valid source version =
    let other = c.in_ok-is_null.ensures.other c.if-is_null.false in
    let p = node_there v (column c.args.row.now c.args.at) (column c.args.row.now (c.args.at + 1)) valid other source version in
    c.in-Err.ensures.memory p.node low p.valid p.source_is p.version_is
