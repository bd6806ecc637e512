use Rattle.std.proofs.Common.{Some, sym, ap, ◌∙◌, ⊎_elim}
use Rattle.std.proofs.lemmas.Bool.{cases_Bool}
use Rattle.std.specs.Ordering.{is_lt}
use Rattle.version_nodes.specs.Nodes.{node_cmp}
use Rattle.ancestry.proofs.WholeLemmas.{stands_root, stands_under, stands_before}
use Rattle.ancestry.proofs.whole.stands.Goals as goal

pub returns-in_default-clause-stands : goal.returns-in_default-clause-stands
returns-in_default-clause-stands c = λ h.
    stands_root c.args.links.now.entries c.args.node.now (c.requires.link ∙ ap Some c.in_default.is) c.source.ensures.valid

pub returns-then-is_node-clause-stands : goal.returns-then-is_node-clause-stands
returns-then-is_node-clause-stands c = λ h.
    let t = c.args.links.now.entries in
    let above = stands_before t _ c.in-Some.parent c.requires.before (sym c.is_node.ensures ∙ c.if-is_node.true) in
    stands_under t c.args.node.now c.in-Some.parent (c.requires.link ∙ ap Some c.in-Some.is) c.source.ensures.valid above.known
    above.line

pub returns-clause-stands : goal.returns-clause-stands
returns-clause-stands c = λ h.
    let t = c.args.links.now.entries in
    let n = c.args.node.now in
    let p = c.in-Some.parent in
    let known = c.is_sound.ensures.known h in
    stands_under t n p (c.requires.link ∙ ap Some c.in-Some.is) c.source.ensures.valid known
    (⊎_elim
    (λ low. (c.requires.below p known low).line)
    (λ off. c.is_sound.ensures.line h off)
    (cases_Bool (is_lt (node_cmp p n))))
