use Rattle.std.proofs.Common.{◌+◌, sym, ap, ◌∙◌, drop, subst}
use Rattle.std.proofs.lemmas.List.{at_drop_more}
use Rattle.version_nodes.specs.Branches.{learn, learn_all}
use Rattle.version_nodes.specs.Branches.{Extends}
use Rattle.ancestry.specs.Kept.{Adds}
use Rattle.version_nodes.specs.Trees.{is_parent}
use Rattle.ancestry.proofs.ChangeLemmas.{has_at, extends_also, extends_learn}
use Rattle.ancestry.proofs.ParentLemmas.{adds_also, adds_learn}
use Rattle.ancestry.proofs.tree.Tree.learn_all.Goals as goal

pub loop-node-preserved : goal.loop-node-preserved
loop-node-preserved c =
    let t = c.args.self.now in
    let u = c.loop-node.self in
    let nodes = c.args.nodes.now in
    let i = c.loop-node.node-index in
    let n = c.node-item.result in
    let inv = c.loop-node.invariant in
    let made = c.in_ok-learn.ensures.ok in
    record {
      left = ap (λ w. learn_all w (drop (i + 1) nodes)) made ∙ ap (λ m. learn_all (learn u m) (drop (i + 1) nodes)) c.node-item.is
          ∙ sym (at_drop_more (learn_all u) nodes i n c.loop-node-test.true) ∙ inv.left;
      extends = subst (Extends t nodes) (sym made)
          (extends_also t u (learn u n) nodes inv.extends
          (extends_learn u nodes n inv.forest.ascending (has_at nodes i n c.loop-node-test.true c.node-item.is)));
      parents = subst (λ w. Adds (is_parent t) nodes (is_parent w)) (sym made)
          (adds_also (is_parent t) (is_parent u) (is_parent (learn u n)) nodes inv.parents (adds_learn u nodes n));
      forest = c.learn.ensures.forest;
    }
