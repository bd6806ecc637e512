use Rattle.std.specs.HashMap.{get}
use Rattle.version_nodes.specs.Nodes.{same_node}
use Rattle.ancestry.proofs.AboveLemmas.{above_back}
use Rattle.ancestry.proofs.branch.note_parent.Goals as goal

pub returns-in-Err-clause-no_above : goal.returns-in-Err-clause-no_above
returns-in-Err-clause-no_above c =
    above_back c.args.node.now c.args.parent.now (get same_node c.args.above.now) (get same_node c.put_above.new.above)
    (get same_node c.remove.new.self) c.requires c.in_ok-put_above.ensures.ok c.remove.ensures.updates.0
