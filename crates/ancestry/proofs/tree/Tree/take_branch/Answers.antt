use Rattle.std.proofs.Common.{◌≡◌, false, refl, sym, ap, ◌∙◌, subst, arith}
use Rattle.std.proofs.lemmas.Grind.{common_steps}
use Rattle.std.specs.Option.{option_flatten}
use Rattle.version_nodes.specs.Trees.{parent_of, is_parent, IsForest}
use Rattle.version_nodes.specs.Branches.{may_change, Extends}
use Rattle.ancestry.specs.Kept.{Adds}
use Rattle.ancestry.proofs.ParentLemmas.{adds_kept}
use Rattle.ancestry.proofs.TakeLemmas.{branched_empty, branched_long, branched_repeated, branched_taken, taken_takes, refused}
use Rattle.ancestry.proofs.tree.Tree.take_branch.Goals as goal

pub returns-then-is_empty-clause-exact : goal.returns-then-is_empty-clause-exact
returns-then-is_empty-clause-exact c =
    (branched_empty c.args.self.now c.args.nodes.now (sym c.is_empty.ensures ∙ c.if-is_empty.true), refl)

pub returns-then-nodes-gt-MOST_NODES-clause-exact : goal.returns-then-nodes-gt-MOST_NODES-clause-exact
returns-then-nodes-gt-MOST_NODES-clause-exact c = (
  branched_long c.args.self.now c.args.nodes.now (sym c.is_empty.ensures ∙ c.if-is_empty.false) c.if-nodes-gt-MOST_NODES.true,
  refl,
)

pub returns-in-Some-clause-exact : goal.returns-in-Some-clause-exact
returns-in-Some-clause-exact c = (
  branched_repeated c.args.self.now c.args.nodes.now c.in-Some.place (sym c.is_empty.ensures ∙ c.if-is_empty.false)
      c.if-nodes-gt-MOST_NODES.false c.in-Some.ensures,
  refl,
)

pub returns-in-Ok-take_all-clause-exact : goal.returns-in-Ok-take_all-clause-exact
returns-in-Ok-take_all-clause-exact c =
    branched_taken c.args.self.now c.args.nodes.now (sym c.is_empty.ensures ∙ c.if-is_empty.false) c.if-nodes-gt-MOST_NODES.false
    (sym c.in_default.is ∙ c.first_repeat.ensures)
    ∙ c.in-Ok-take_all.ensures.exact

pub invariant_of-self : goal.invariant_of-self
invariant_of-self c =
    let t = c.args.self.now in
    let forest : IsForest t = subst IsForest c.self.view_is c.self.invariant.0 in
    let same = c.put_back.ensures t forest (c.as_slice.ensures.value ∙ c.in-Ok.ensures)
    (subst (Extends t c.args.nodes.now) (sym c.self-2.view_is) c.take_all.ensures.extends) in
    let u = c.self-2.inside.links.entries in
    let nodes = c.args.nodes.now in
    let added = subst (λ w. Adds (is_parent t) nodes (is_parent w)) (sym c.self-2.view_is) c.take_all.ensures.parents in
    let parents = c.forget_parents.ensures (is_parent t) (c.as_slice-in-Err.ensures.value ∙ c.in-Ok-are_parents.ensures)
    (adds_kept (is_parent t) nodes u c.self-2.inside.parents added c.self-2.invariant.1) in
    let extends = subst (Extends t nodes) (sym c.self-2.view_is) c.take_all.ensures.extends in (
      subst IsForest (sym same) forest,
      λ n. parents n ∙ ap (λ w. is_parent w n) (sym same),
      c.forget_above.ensures (λ n off. c.self-2.invariant.2 n
          ∙ ap option_flatten (extends.others n (subst (λ w. may_change w nodes n ≡ false) same off))
          ∙ ap (λ w. parent_of w n) (sym same)),
    )

pub returns-clause-exact : goal.returns-clause-exact
returns-clause-exact c =
    let t = c.args.self.now in
    let nodes = c.args.nodes.now in
    let forest : IsForest t = subst IsForest c.self.view_is c.self.invariant.0 in
    let same = c.put_back.ensures t forest (c.as_slice.ensures.value ∙ c.in-Ok.ensures)
    (subst (Extends t nodes) (sym c.self-2.view_is) c.take_all.ensures.extends) in
    let made = branched_taken t nodes (sym c.is_empty.ensures ∙ c.if-is_empty.false) c.if-nodes-gt-MOST_NODES.false
    (sym c.in_default.is ∙ c.first_repeat.ensures) in
    refused t nodes _ c.in-Err.fault c.take_all.new.self _ made c.in-Err.ensures.exact same

pub returns-clause-forest : goal.returns-clause-forest
returns-clause-forest c =
    let t = c.args.self.now in
    let forest : IsForest t = subst IsForest c.self.view_is c.self.invariant.0 in
    let same = c.put_back.ensures t forest (c.as_slice.ensures.value ∙ c.in-Ok.ensures)
    (subst (Extends t c.args.nodes.now) (sym c.self-2.view_is) c.take_all.ensures.extends) in
    subst IsForest (sym same) forest

pub returns-in_default-pasts-clause-memory : goal.returns-in_default-pasts-clause-memory
returns-in_default-pasts-clause-memory c = λ h.
    taken_takes c.args.self.now c.args.nodes.now (sym c.is_empty.ensures ∙ c.if-is_empty.false) c.if-nodes-gt-MOST_NODES.false
    (sym c.in_default.is ∙ c.first_repeat.ensures)

pub returns-in_default-are_parents-clause-memory : goal.returns-in_default-are_parents-clause-memory
returns-in_default-are_parents-clause-memory c = λ h.
    taken_takes c.args.self.now c.args.nodes.now (sym c.is_empty.ensures ∙ c.if-is_empty.false) c.if-nodes-gt-MOST_NODES.false
    (sym c.in_default.is ∙ c.first_repeat.ensures)

pub returns-clause-memory : goal.returns-clause-memory
returns-clause-memory c = λ h.
    taken_takes c.args.self.now c.args.nodes.now (sym c.is_empty.ensures ∙ c.if-is_empty.false) c.if-nodes-gt-MOST_NODES.false
    (sym c.in_default.is ∙ c.first_repeat.ensures)

pub returns-in-Some-clause-forest : goal.returns-in-Some-clause-forest
returns-in-Some-clause-forest c = grind (arith, common_steps)

pub returns-in_default-are_parents-clause-forest : goal.returns-in_default-are_parents-clause-forest
returns-in_default-are_parents-clause-forest c = grind (arith, common_steps)

pub returns-in_default-pasts-clause-forest : goal.returns-in_default-pasts-clause-forest
returns-in_default-pasts-clause-forest c = grind (arith, common_steps)

pub returns-then-nodes-gt-MOST_NODES-clause-forest : goal.returns-then-nodes-gt-MOST_NODES-clause-forest
returns-then-nodes-gt-MOST_NODES-clause-forest c = grind (arith, common_steps)

pub returns-in-Ok-take_all-clause-memory : goal.returns-in-Ok-take_all-clause-memory
returns-in-Ok-take_all-clause-memory c = grind (arith, common_steps)

pub returns-then-is_empty-clause-forest : goal.returns-then-is_empty-clause-forest
returns-then-is_empty-clause-forest c = grind (arith, common_steps)

pub returns-in-Some-clause-memory : goal.returns-in-Some-clause-memory
returns-in-Some-clause-memory c = grind (arith, common_steps)

pub returns-then-nodes-gt-MOST_NODES-clause-memory : goal.returns-then-nodes-gt-MOST_NODES-clause-memory
returns-then-nodes-gt-MOST_NODES-clause-memory c = grind (arith, common_steps)
