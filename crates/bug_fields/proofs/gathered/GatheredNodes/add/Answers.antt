use Rattle.std.proofs.Common.{◌≡◌, [], None, true, sym, ap, ◌∙◌, subst, length, arith}
use Rattle.std.specs.Prelude.{◌==◌}
use Rattle.std.specs.List.Sorted.{IsStrictlySortedBy}
use Rattle.std.proofs.lemmas.Result.{IfOk-from_err}
use Rattle.std.proofs.lemmas.Grind.{common_steps}
use Rattle.version_nodes.specs.Nodes.{node_cmp}
use Rattle.bug_fields.specs.Gathered.{is_ordered}
use Rattle.bug_fields.specs.Gathered.{with_nodes}
use Rattle.bug_fields.proofs.GatheredLemmas.{ordered-from, same-added, first-added, both-added}
use Rattle.bug_fields.proofs.gathered.GatheredNodes.add.Goals as goal

pub returns-then-eq : goal.returns-then-eq
returns-then-eq c =
    same-added c.self.inside.list c.args.self.now c.args.nodes.now c.self.inside.tree c.self.view_is c.in_default.is
    c.self.invariant (sym c.eq.ensures ∙ c.if-eq.true)

pub invariant_of-self-then-is_ordered : goal.invariant_of-self-then-is_ordered
invariant_of-self-then-is_ordered c =
    let ordered : is_ordered None c.args.nodes.now ≡ true =
    ap (is_ordered None) (sym c.as_slice-then-is_empty-2.ensures) ∙ sym c.is_ordered.ensures ∙ c.if-is_ordered.true in
    subst (IsStrictlySortedBy node_cmp) (sym c.in_ok-self-inside.ensures) (ordered-from c.args.nodes.now ordered)

pub returns-then-is_ordered : goal.returns-then-is_ordered
returns-then-is_ordered c =
    let ordered : is_ordered None c.args.nodes.now ≡ true =
    ap (is_ordered None) (sym c.as_slice-then-is_empty-2.ensures) ∙ sym c.is_ordered.ensures ∙ c.if-is_ordered.true in
    let none : (length c.self.inside.list == 0) ≡ true =
    ap (λ ns. length ns == 0) (sym c.as_slice-3.ensures) ∙ sym c.is_empty-2.ensures ∙ c.if-is_empty-2.true in
    first-added c.self.inside.list c.args.self.now c.args.nodes.now c.in_ok-self-inside.field-0 c.self.inside.tree
    c.self.view_is c.in_default.is none ordered c.in_ok-self-inside.ensures

pub returns : goal.returns
returns c =
    both-added c.self.inside.list c.args.self.now c.args.nodes.now c.in_ok-both.field-0.keys c.self.inside.tree
    c.self.view_is c.in_default.is c.self.invariant
    (c.in_ok-both.ensures ∙ (λ j. with_nodes (with_nodes [] (c.as_slice-4.ensures j)) (c.as_slice-5.ensures j)))

pub returns-in-Some : goal.returns-in-Some
returns-in-Some c = grind (arith, common_steps)

pub returns-then-is_empty : goal.returns-then-is_empty
returns-then-is_empty c = grind (arith, common_steps)

pub returns-in_err-self-inside : goal.returns-in_err-self-inside
returns-in_err-self-inside c = IfOk-from_err _ _ c.from_residual.ensures.0

pub returns-in_err-both : goal.returns-in_err-both
returns-in_err-both c = IfOk-from_err _ _ c.from_residual-in_err-both.ensures.0
