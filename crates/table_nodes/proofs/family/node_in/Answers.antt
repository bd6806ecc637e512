use Rattle.std.proofs.lemmas.Result.{IfOk-weaker}
use Rattle.table_schema.proofs.Exports.{◌≡◌, ap, ◌∙◌, column}
use Rattle.table_nodes.proofs.NodeCells.{same_here}
use Rattle.table_nodes.proofs.family.node_in.Goals as goal

pub returns-then-is_node_at-clause-value : goal.returns-then-is_node_at-clause-value
returns-then-is_node_at-clause-value c l valid are =
    let row = c.args.row.now in
    let h = c.is_node_at.ensures in
    let yes = c.if-is_node_at.true in
    let same = same_here c.in-Some.like.now l.0 (column row 0) (column row 1) (h.source yes) (h.version yes)
    (ap (λ r. column r 0) are) (ap (λ r. column r 1) are) in
    IfOk-weaker c.copy_of.result (λ n. n ≡ c.in-Some.like.now) (λ n. n ≡ l.0) (λ n e. e ∙ same)
    c.copy_of.ensures.value
