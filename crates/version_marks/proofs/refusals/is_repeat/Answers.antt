use Rattle.std.proofs.Common.{take, false, refl, sym, ap, ◌∙◌}
use Rattle.std.specs.Option.{option_map_or}
use Rattle.std.proofs.lemmas.Option.{slice_get_past, slice_get_read}
use Rattle.version_nodes.specs.Trees.{has_node}
use Rattle.ancestry.proofs.RepeatLemmas.{has_turned}
use Rattle.version_marks.proofs.refusals.is_repeat.Goals as goal

pub returns-in-Some : goal.returns-in-Some
returns-in-Some c =
    let nodes = c.args.nodes.now in
    let before = take c.args.place nodes in
    let node = c.in-Some.node.now in
    let found = c.in-Some.ensures.lookup in
    c.contains.ensures.value ∙ has_turned before node
    ∙ sym (ap (λ o. option_map_or (has_node before) o false) (slice_get_read nodes _ c.args.place node refl found.3.0 found.1))

pub returns-in-None : goal.returns-in-None
returns-in-None c =
    let nodes = c.args.nodes.now in
    let past = c.in-None.ensures.lookup in
    sym (ap (λ o. option_map_or (has_node (take c.args.place nodes)) o false) (slice_get_past nodes c.args.place past.3))
