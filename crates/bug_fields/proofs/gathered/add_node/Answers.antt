use Rattle.std.proofs.Common.{ap, ◌∙◌}
use Rattle.bug_record.specs.Marks.{with_node}
use Rattle.bug_fields.proofs.gathered.add_node.Goals as goal

pub returns : goal.returns
returns c =
    c.in_ok-insert.ensures.keys ∙ ap (with_node c.args.set.now.keys) c.in_ok-copy.ensures.value
