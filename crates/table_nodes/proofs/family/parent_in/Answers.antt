use Rattle.std.proofs.lemmas.Result.{IfOk-weaker}
use Rattle.table_schema.proofs.Exports.{◌≡◌, Some, ap, ◌∙◌, column}
use Rattle.table_nodes.proofs.NodeCells.{parent_here}
use Rattle.table_nodes.proofs.family.parent_in.Goals as goal

pub returns-then-is_node_at-clause-value : goal.returns-then-is_node_at-clause-value
returns-then-is_node_at-clause-value c l valid are =
    let row = c.args.row.now in
    let h = c.is_node_at.ensures in
    let yes = c.if-is_node_at.true in
    let same = parent_here c.in-Some.like.now l.1 (column row 2) (column row 3) (h.source yes) (h.version yes)
    (ap (λ r. column r 2) are) (ap (λ r. column r 3) are) in
    IfOk-weaker c.some_copy_of.result (λ n. n ≡ Some c.in-Some.like.now) (λ n. n ≡ l.1) (λ n e. e ∙ same)
    c.some_copy_of.ensures.value
