use Rattle.std.proofs.Common.{◌≡◌, ◌∷◌, Err, true, refl, sym, ap, ◌∙◌, subst, arith}
use Rattle.std.proofs.lemmas.Grind.{common_steps}
use Rattle.std.proofs.lemmas.List.{at_drop_all}
use Rattle.std.proofs.lemmas.Result.{err_from_is_err_and}
use Rattle.version_nodes.specs.Trees.{has_node, is_parent, IsForest}
use Rattle.version_nodes.specs.Branches.{base_on, base_all}
use Rattle.version_nodes.proofs.NodeLemmas.{has_head, has_tail}
use Rattle.ancestry.proofs.ChangeLemmas.{has_at, known_each, extends_same, extends_also, extends_base}
use Rattle.ancestry.proofs.ParentLemmas.{adds_also, adds_base}
use Rattle.ancestry.proofs.TakeLemmas.{refused_at, made_at, at_pair, after_pair, makes_same}
use Rattle.ancestry.proofs.tree.Tree.base_all.Goals as goal

pub loop-place-init : goal.loop-place-init
loop-place-init c =
    let t = c.args.self.now in
    let all = c.in-Some.ensures.cases.0 in
    let forest : IsForest t = subst IsForest c.self.view_is c.self.invariant.0 in
    record {
      left = ap (base_all 0 t) (sym all);
      here = subst (λ ns. has_node ns c.in-Some.node.now ≡ true) (sym all) (has_head c.in-Some.node.now c.in-Some.others.now);
      above = λ q h. subst (λ ns. has_node ns q ≡ true) (sym all) (has_tail q c.in-Some.node.now c.in-Some.others.now h);
      known = known_each t c.args.nodes.now c.requires.knows_all;
      extends = extends_same t c.args.nodes.now forest.ascending;
      parents = λ q off. refl;
      forest = forest;
    }

pub base_on-requires-clause-knows_parent : goal.base_on-requires-clause-knows_parent
base_on-requires-clause-knows_parent c =
    let inv = c.loop-place.invariant in
    inv.known c.index-others-place.result
    (inv.above c.index-others-place.result
    (has_at c.in-Some.others.now c.loop-place.place c.index-others-place.result c.loop-place-test.true
    c.index-others-place.is))

pub returns-in_err-base_on-clause-exact : goal.returns-in_err-base_on-clause-exact
returns-in_err-base_on-clause-exact c =
    let others = c.in-Some.others.now in
    let i = c.loop-place.place in
    let n = c.loop-place.node.now in
    let p = c.index-others-place.result in
    let u = c.loop-place.self in
    let w = c.base_on.new.self in
    let fault = c.in_err-base_on.field-0.0 in
    let so_far = sym (at_pair i u n p others c.loop-place-test.true c.index-others-place.is) ∙ c.loop-place.invariant.left in
    let is = err_from_is_err_and c.from_residual.result c.from_residual.ensures.1 in
    rw (is.1, is.2) (makes_same _ _ (Err fault) w so_far
    (refused_at i (base_on u n p) _ fault w w c.in_err-base_on.ensures.exact))

pub loop-place-preserved : goal.loop-place-preserved
loop-place-preserved c =
    let nodes = c.args.nodes.now in
    let others = c.in-Some.others.now in
    let i = c.loop-place.place in
    let n = c.loop-place.node.now in
    let p = c.index-others-place.result in
    let t = c.args.self.now in
    let u = c.loop-place.self in
    let w = c.base_on.new.self in
    let inv = c.loop-place.invariant in
    let made = made_at i (base_on u n p) w c.in_ok-base_on.ensures.exact in
    let next = inv.above p (has_at others i p c.loop-place-test.true c.index-others-place.is) in
    let more = extends_base u w nodes n p inv.forest.ascending inv.here made in
    record {
      left = sym (after_pair i u n p others c.loop-place-test.true c.index-others-place.is w made) ∙ inv.left;
      here = next;
      above = inv.above;
      known = λ q h. more.kept q (inv.known q h);
      extends = extends_also t u w nodes inv.extends more;
      parents = adds_also (is_parent t) (is_parent u) (is_parent w) nodes inv.parents (adds_base u w nodes n p next made);
      forest = c.in_ok-base_on.ensures.forest;
    }

pub returns-clause-exact : goal.returns-clause-exact
returns-clause-exact c =
    sym c.loop-place.invariant.left
    ∙ at_drop_all (λ ns. base_all c.loop-place.place c.loop-place.self (c.loop-place.node.now ∷ ns)) c.in-Some.others.now
    c.loop-place.place c.loop-place-test.false

pub returns-in_default-clause-exact : goal.returns-in_default-clause-exact
returns-in_default-clause-exact c = grind (arith, common_steps)

pub returns-in_default-clause-forest : goal.returns-in_default-clause-forest
returns-in_default-clause-forest c = grind (arith, common_steps)

pub returns-in_default-clause-extends : goal.returns-in_default-clause-extends
returns-in_default-clause-extends c = grind (arith, common_steps)
