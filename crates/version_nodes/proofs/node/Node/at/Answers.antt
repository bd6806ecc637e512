use Rattle.std.proofs.Common.{is_some, sym, ap, ◌∙◌, subst, rules}
use Rattle.version_nodes.specs.Nodes.{IsRead}
use Rattle.version_nodes.proofs.ReadLemmas.{word_with_slash, word_without_slash}
use Rattle.version_nodes.proofs.node.Node.at.Goals as goal

pub returns-in_default : goal.returns-in_default
returns-in_default c =
    let same =
    word_without_slash c.args.package.now c.args.word.now (sym c.at_first_slash.ensures.slash ∙ ap is_some c.in_default.is) in
    subst (λ o. IsRead o c.node_of.result) (sym same) c.node_of.ensures

pub returns : goal.returns
returns c =
    let facts = c.in-Some.ensures in
    let same =
    word_with_slash c.args.package.now c.args.word.now c.in-Some.own.now c.in-Some.version.now (search rules) (sym facts.slash)
    facts.before facts.after in
    subst (λ o. IsRead o c.node_of-2.result) (sym same) c.node_of-2.ensures
