use Rattle.std.proofs.Common.{◌∙◌}
use Rattle.table_content.proofs.MarkMoveLemmas.{none_left}
use Rattle.table_content.proofs.moving.is_part.Goals as goal

pub returns : goal.returns
returns c =
    c.is_empty.ensures
    ∙ none_left c.loop-node.left.now c.args.nodes.now c.loop-node.node-index c.loop-node-test.false
    ∙ c.loop-node.invariant
