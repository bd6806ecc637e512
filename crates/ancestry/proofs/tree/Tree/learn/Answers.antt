use Rattle.std.proofs.Common.{None, sym, ◌∙◌, subst, arith}
use Rattle.std.proofs.lemmas.Grind.{common_steps}
use Rattle.std.specs.BTreeMap.{insert_entry}
use Rattle.version_nodes.specs.Nodes.{node_cmp}
use Rattle.version_nodes.specs.Trees.{IsForest}
use Rattle.ancestry.specs.Kept.{AreParents, HasParents}
use Rattle.ancestry.proofs.AboveLemmas.{above_learnt}
use Rattle.ancestry.proofs.BranchLemmas.{learnt_forest}
use Rattle.ancestry.proofs.ParentLemmas.{kept_learnt}
use Rattle.ancestry.proofs.tree.Tree.learn.Goals as goal

pub invariant_of-self-2 : goal.invariant_of-self-2
invariant_of-self-2 c =
    let t = c.self.inside.links.entries in
    let parents = c.self.inside.parents in
    let above = c.self.inside.above in
    let unknown = sym c.contains_key.ensures ∙ c.if-contains_key.false in (
      subst IsForest (sym c.in_ok-insert.ensures.entries)
          (subst (λ m. IsForest (insert_entry node_cmp t m None)) (sym c.in_ok-copy.ensures.value)
          (learnt_forest t c.args.node.now c.self.invariant.0 unknown c.copy.ensures.valid)),
      subst (λ u. AreParents u parents) (sym c.in_ok-insert.ensures.entries)
          (subst (λ m. AreParents (insert_entry node_cmp t m None) parents) (sym c.in_ok-copy.ensures.value)
          (kept_learnt t c.args.node.now parents unknown c.self.invariant.1)),
      subst (λ u. HasParents u above) (sym c.in_ok-insert.ensures.entries)
          (subst (λ m. HasParents (insert_entry node_cmp t m None) above) (sym c.in_ok-copy.ensures.value)
          (above_learnt t c.args.node.now above unknown c.self.invariant.2)),
    )

pub returns-clause-forest : goal.returns-clause-forest
returns-clause-forest c =
    let t = c.self.inside.links.entries in
    subst IsForest (sym c.in_ok-insert.ensures.entries)
    (subst (λ m. IsForest (insert_entry node_cmp t m None)) (sym c.in_ok-copy.ensures.value)
    (learnt_forest t c.args.node.now c.self.invariant.0 (sym c.contains_key.ensures ∙ c.if-contains_key.false)
    c.copy.ensures.valid))

pub invariant_of-self-in_err-insert : goal.invariant_of-self-in_err-insert
invariant_of-self-in_err-insert c = grind (arith, common_steps)

pub returns-then-contains_key-clause-forest : goal.returns-then-contains_key-clause-forest
returns-then-contains_key-clause-forest c = grind (arith, common_steps)

pub returns-clause-ok : goal.returns-clause-ok
returns-clause-ok c = grind (arith, common_steps)
