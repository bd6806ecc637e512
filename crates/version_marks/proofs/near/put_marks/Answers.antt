use Rattle.std.proofs.Common.{cond, Some}
use Rattle.std.specs.BTreeMap.{get}
use Rattle.version_nodes.specs.Nodes.{node_cmp}
use Rattle.version_nodes.specs.Trees.{has_node}
use Rattle.version_marks.proofs.MarkLemmas.{marks_more}
use Rattle.version_marks.proofs.near.put_marks.Goals as goal

pub loop-node-preserved : goal.loop-node-preserved
loop-node-preserved c =
    marks_more c.args.nodes.now c.loop-node.node-index c.node-item.result c.in_ok-copy.field-0 c.args.kind c.loop-node.marks
    c.insert.new.self (λ v. cond (has_node c.args.nodes.now v) (Some c.args.kind) (get node_cmp c.args.marks.now v)) c.loop-node-test.true
    c.node-item.is c.in_ok-copy.ensures.value c.in_ok-insert.ensures.updates.0 c.loop-node.invariant
