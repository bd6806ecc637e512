use Rattle.std.proofs.Common.{refl, sym, ◌∙◌}
use Rattle.std.proofs.lemmas.Option.{none-some}
use Rattle.version_nodes.specs.Nodes.{node}
use Rattle.version_nodes.proofs.ReadLemmas.{nodes_exactly}
use Rattle.version_nodes.proofs.node.Node.with_version.Goals as goal

pub returns-in-Ok : goal.returns-in-Ok
returns-in-Ok c =
    (nodes_exactly c.args.source.now c.args.version.now c.in-Ok.node).1
    (c.in-Ok.ensures, c.if-not-is_name.ensures.name refl, c.requires)

pub returns-in-Err : goal.returns-in-Err
returns-in-Err c = λ e.
    let named = node c.args.source.now c.args.version.now in
    none-some named
    (sym e
    ∙ (nodes_exactly c.args.source.now c.args.version.now named).1 (refl, c.if-not-is_name.ensures.name refl, c.requires))
