use Rattle.std.proofs.Common.{codes}
use Rattle.version_nodes.specs.Nodes.{node_text}
use Rattle.desk_text.specs.Texts.{still_found_text}
use Rattle.desk_text.proofs.Appends.{same_front, stopped, then_appended}
use Rattle.desk_text.proofs.texts.append_still_found.Goals as goal

pub returns-in_err-append_text : goal.returns-in_err-append_text
returns-in_err-append_text c =
    let a = c.args.out.now.items in
    stopped c.from_residual.result a (still_found_text c.args.node.now) c.append_text.new.out.items
    c.from_residual.ensures.0 (same_front a _ c.in_err-append_text.ensures.err) c.append_text.ensures.utf8

pub returns : goal.returns
unfolding still_found_text
returns c =
    then_appended c.append_node.result c.args.out.now.items (codes "still found in ") c.append_text.new.out.items
    (node_text c.args.node.now) c.append_node.new.out.items c.in_ok-append_text.ensures.ok c.append_text.ensures.utf8
    c.append_node.ensures
