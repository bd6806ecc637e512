use Rattle.std.proofs.Common.{sym, ◌∙◌}
use Rattle.ancestry.proofs.LineLemmas.{here_in_line, up_in_line, shorter_up}
use Rattle.ancestry.proofs.tree.Tree.leads_to.Goals as goal

pub returns-then-eq : goal.returns-then-eq
returns-then-eq c =
    sym (here_in_line c.args.self.now c.loop-parent.at.now c.args.node.now c.parent.ensures.forest
    (sym c.eq.ensures ∙ c.if-eq.true)) ∙ c.loop-parent.invariant

pub loop-parent-smaller : goal.loop-parent-smaller
loop-parent-smaller c =
    shorter_up c.args.self.now c.loop-parent.at.now c.in-Some.parent.now c.parent.ensures.forest (sym c.in-Some.ensures.value)

pub loop-parent-preserved : goal.loop-parent-preserved
loop-parent-preserved c =
    sym (up_in_line c.args.self.now c.loop-parent.at.now c.in-Some.parent.now c.args.node.now c.parent.ensures.forest
    (sym c.in-Some.ensures.value) (sym c.eq.ensures ∙ c.if-eq.false))
    ∙ c.loop-parent.invariant
