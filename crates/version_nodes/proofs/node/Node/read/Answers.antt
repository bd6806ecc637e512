use Rattle.std.proofs.Common.{sym, subst}
use Rattle.version_nodes.specs.Nodes.{IsRead}
use Rattle.version_nodes.proofs.ReadLemmas.{node_at_slash}
use Rattle.version_nodes.proofs.node.Node.read.Goals as goal

pub returns-in-Some : goal.returns-in-Some
returns-in-Some c =
    let facts = c.in-Some.ensures in
    let same = node_at_slash c.args.text.now c.in-Some.source.now c.in-Some.version.now (sym facts.slash) facts.before facts.after
    in
    subst (λ o. IsRead o c.node_of.result) (sym same) c.node_of.ensures
