use Rattle.std.proofs.Common.{◌∷◌, codes, refl, sym}
use Rattle.version_nodes.specs.Nodes.{node_text}
use Rattle.desk_text.proofs.Appends.{all_done, and_then, next}
use Rattle.desk_text.proofs.pages.append_each_node.Goals as goal

pub loop-node-init : goal.loop-node-init
loop-node-init c = refl

pub loop-node-preserved : goal.loop-node-preserved
loop-node-preserved c =
    let l = c.loop-node in
    let node = c.node-item.result in
    next (λ node. 32 ∷ node_text node) c.args.nodes.now l.node-index node node l.out.items _ _ c.loop-node-test.true
    (sym c.node-item.is) l.invariant
    (and_then l.out.items (codes " ") (node_text node) c.in_ok-append_text.ensures.ok c.in_ok-append_node.ensures.ok)

pub returns : goal.returns
returns c =
    let l = c.loop-node in
    all_done (λ node. 32 ∷ node_text node) c.args.nodes.now l.node-index _ l.out.items c.loop-node-test.false
    l.invariant
