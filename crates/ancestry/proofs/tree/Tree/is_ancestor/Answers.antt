use Rattle.std.proofs.Common.{sym, ◌∙◌}
use Rattle.ancestry.proofs.LineLemmas.{ancestors_up}
use Rattle.ancestry.proofs.tree.Tree.is_ancestor.Goals as goal

pub returns-in-Some-clause-value : goal.returns-in-Some-clause-value
returns-in-Some-clause-value c =
    c.leads_to.ensures ∙ ancestors_up c.args.self.now c.args.node.now c.in-Some.parent.now c.args.ancestor.now
    c.parent.ensures.forest (sym c.in-Some.ensures.value)
