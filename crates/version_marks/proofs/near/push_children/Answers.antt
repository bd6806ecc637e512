use Rattle.std.proofs.Common.{is_some, ap}
use Rattle.std.specs.BTreeMap.{get}
use Rattle.version_nodes.specs.Nodes.{Node, node_cmp}
use Rattle.version_marks.proofs.WalkLemmas.{step_none, step_some}
use Rattle.version_marks.proofs.near.push_children.Goals as goal

pub returns-in_default : goal.returns-in_default
returns-in_default c =
    step_none c.args.family.now (λ v. is_some (get node_cmp c.args.marks.now v)) c.args.rows.now.items c.args.place
    c.index-row.result.now c.requires.within c.index-row.ensures c.in_default.ensures

pub returns : goal.returns
returns c =
    step_some c.args.family.now (λ v. is_some (get node_cmp c.args.marks.now v)) c.args.rows.now.items c.args.place
    c.index-row.result.now c.requires.within c.index-row.ensures c.push_below.result c.push_below.new.rows.items
    (record { mark = c.in_ok-copy.field-0; kind = c.index-row.result.now.near.kind }) c.in-Some.children.now
    (ap (λ (z : Node). record { mark = z; kind = c.index-row.result.now.near.kind }) c.in_ok-copy.ensures.value)
    c.push_below.ensures.ordered c.in-Some.ensures c.push_below.ensures.rows
