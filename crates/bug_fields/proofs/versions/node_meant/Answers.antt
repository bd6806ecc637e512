use Rattle.std.proofs.Common.{Err, sym, ap, ◌∙◌, subst}
use Rattle.std.specs.Prelude.{unwrap_or}
use Rattle.version_nodes.specs.Nodes.{node_of, IsRead}
use Rattle.bug_fields.proofs.NodeLemmas.{of-some, of-none-meant}
use Rattle.bug_fields.proofs.versions.node_meant.Goals as goal

pub returns-in-Ok-clause-node : goal.returns-in-Ok-clause-node
returns-in-Ok-clause-node c =
    let v = c.args.version.now in
    of-some (unwrap_or v.source c.args.package.now) v.version c.in-Ok.node
    (ap (λ s. node_of s v.version) (sym c.source_meant-source.ensures) ∙ c.in-Ok.ensures)

pub returns-in-Err-BadNode-clause-fault : goal.returns-in-Err-BadNode-clause-fault
returns-in-Err-BadNode-clause-fault c =
    let v = c.args.version.now in
    of-none-meant v.source c.args.package.now v.version c.requires.source c.requires.version
    (ap (λ s. node_of s v.version) (sym c.source_meant-source.ensures)
    ∙ subst (λ z. IsRead (node_of c.source_meant-source.result.now v.version) (Err z)) c.in-Err-BadNode.field-0-is
    c.in-Err-BadNode.ensures)
