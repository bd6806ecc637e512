use Rattle.std.proofs.Common.{drop, ◌+◌, sym, ◌∙◌, subst}
use Rattle.std.specs.HashMap.{get}
use Rattle.version_nodes.specs.Nodes.{same_node}
use Rattle.ancestry.proofs.AboveLemmas.{FitsBut, forget_one, forget_none}
use Rattle.ancestry.proofs.branch.forget_above.Goals as goal
use Rattle.ancestry.proofs.branch.forget_above.Goals.{then-not-has_parent+in-Some-1, then-not-has_parent+in-None-1, else-not-has_parent}

pub loop-node-preserved : goal.loop-node-preserved
loop-node-preserved c = λ fits.
    let t = c.args.links.now.entries in
    let nodes = c.args.nodes.now in
    let i = c.loop-node.node-index in
    let n = c.node-item.result in
    let was = get same_node c.loop-node.above in
    let before = c.loop-node.invariant fits in
    elim c.if-not-has_parent.branch [
      | then-not-has_parent+in-Some-1 w ↦
          subst (λ m. FitsBut t (drop (i + 1) nodes) (get same_node m)) (sym w.above-is)
          (forget_one t nodes i n c.loop-node-test.true c.node-item.is was (get same_node w.remove.new.self)
          (sym c.has_parent.ensures ∙ w.if-not-has_parent.true) w.remove.ensures.updates.0 before)
      | then-not-has_parent+in-None-1 w ↦
          subst (λ m. FitsBut t (drop (i + 1) nodes) (get same_node m)) (sym w.above-is)
          (forget_one t nodes i n c.loop-node-test.true c.node-item.is was (get same_node w.remove.new.self)
          (sym c.has_parent.ensures ∙ w.if-not-has_parent.true) w.remove.ensures.updates.0 before)
      | else-not-has_parent w ↦
          subst (λ m. FitsBut t (drop (i + 1) nodes) (get same_node m)) (sym w.above-is)
          (forget_none t nodes i n c.loop-node-test.true c.node-item.is was (sym c.has_parent.ensures ∙ w.if-not-has_parent.false) before)
    ]
