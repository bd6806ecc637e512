use Rattle.std.proofs.Common.{◌++◌, codes}
use Rattle.version_nodes.specs.Nodes.{node_text}
use Rattle.desk_text.proofs.Appends.{stopped_within, then_written}
use Rattle.desk_text.proofs.lists.append_subject.Goals as goal

pub returns-in_err-append_three : goal.returns-in_err-append_three
returns-in_err-append_three c =
    stopped_within c.from_residual.result c.args.out.now.items
    (codes "Bugs in " ++ c.args.«package».now ++ codes " at " ++ node_text c.args.node.now) c.append_three.new.out.items
    c.from_residual.ensures.0 c.in_err-append_three.ensures.err

pub returns : goal.returns
returns c =
    then_written c.append_node.result c.args.out.now.items (codes "Bugs in " ++ c.args.«package».now ++ codes " at ")
    c.append_three.new.out.items (node_text c.args.node.now) c.append_node.new.out.items c.in_ok-append_three.ensures.ok
    c.append_node.ensures.ok c.append_node.ensures.err
