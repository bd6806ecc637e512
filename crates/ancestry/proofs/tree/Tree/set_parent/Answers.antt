use Rattle.std.proofs.Common.{◌≡◌, true, false, Result, Ok, Err, OnOk, OnErr, sym, ap, subst, ◌∙◌, arith}
use Rattle.std.proofs.lemmas.Grind.{common_steps}
use Rattle.version_nodes.specs.Nodes.{Node}
use Rattle.version_nodes.specs.Trees.{Ancestry, knows, IsForest}
use Rattle.version_nodes.specs.Branches.{with_parent}
use Rattle.ancestry.specs.Kept.{AreParents, HasParents}
use Rattle.ancestry.proofs.AboveLemmas.{above_based}
use Rattle.ancestry.proofs.BranchLemmas.{based_forest}
use Rattle.ancestry.proofs.ParentLemmas.{kept_based}
use Rattle.ancestry.proofs.tree.Tree.set_parent.Goals as goal

-- copies of a known node and of its parent are always linked
linked : {A B : Type 0} (r : Result A B) (t u w : Ancestry) (n p m q : Node) → u ≡ t → m ≡ n → q ≡ p → knows t n ≡ true
    → OnOk r (w ≡ with_parent u m q) → OnErr r (knows u m ≡ false) → w ≡ with_parent t n p
linked (Ok x) t u w n p m q d e f known ok err =
    ok ∙ ap (λ z. with_parent z m q) d ∙ ap (λ z. with_parent t z q) e ∙ ap (λ z. with_parent t n z) f
linked (Err x) t u w n p m q d e f known ok err =
    let is = ap (λ z. knows z m) d ∙ ap (λ z. knows t z) e ∙ known in
    absurd (cc)

on_ok : {A B : Type 0} {P : Type 0} (r : Result A B) → P → OnOk r P
on_ok (Ok x) h = h
on_ok (Err x) h = tt

pub invariant_of-self-2 : goal.invariant_of-self-2
invariant_of-self-2 c =
    let t = c.args.self.now in
    let n = c.args.node.now in
    let p = c.args.parent.now in
    let r = c.requires in
    let same = linked c.link.result t _ c.link.new.links.entries n p _ _ c.self.view_is c.in_ok-child.ensures.value
    c.in_ok-own.ensures.value r.knows_node c.link.ensures.ok c.link.ensures.err in
    let were = subst (λ u. AreParents u c.self.inside.parents) c.self.view_is c.self.invariant.1 in
    let based = kept_based t n p c.self.inside.parents c.note_parent.new.parents r.root were c.in_ok-note_parent.ensures.parents in
    let has = above_based t n p c.self.inside.above c.note_parent.new.above (subst (λ u. HasParents u c.self.inside.above) c.self.view_is c.self.invariant.2)
    c.in_ok-note_parent.ensures.above in (
      subst IsForest (sym same)
          (based_forest t n p (subst IsForest c.self.view_is c.self.invariant.0) r.knows_node r.knows_parent r.root r.apart),
      subst (λ u. AreParents u c.note_parent.new.parents) (sym same) based,
      subst (λ u. HasParents u c.note_parent.new.above) (sym same) has,
    )

pub note_parent-requires : goal.note_parent-requires
note_parent-requires c =
    subst (λ u. HasParents u c.self.inside.above) c.self.view_is c.self.invariant.2 c.args.node.now ∙ c.requires.root

pub returns-clause-forest : goal.returns-clause-forest
returns-clause-forest c = on_ok _ (invariant_of-self-2 c).0

pub invariant_of-self : goal.invariant_of-self
invariant_of-self c = grind (arith, common_steps)

pub returns-clause-err : goal.returns-clause-err
returns-clause-err c = grind (arith, common_steps)

pub returns-clause-ok : goal.returns-clause-ok
returns-clause-ok c = grind (arith, common_steps)

pub returns-in_err-note_parent-clause-err : goal.returns-in_err-note_parent-clause-err
returns-in_err-note_parent-clause-err c = grind (arith, common_steps)
