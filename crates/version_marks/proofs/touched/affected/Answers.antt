use Rattle.version_marks.proofs.TouchedLemmas.{touched_once, touched_are}
use Rattle.version_marks.proofs.touched.affected.Goals as goal

pub returns-clause-once : goal.returns-clause-once
returns-clause-once c = touched_once c.nodes_of.result c.in_ok-rows.rows.items c.nodes_of.ensures c.in_ok-rows.ensures.once

pub returns-clause-nodes : goal.returns-clause-nodes
returns-clause-nodes c =
    touched_are c.nodes_of.result c.in_ok-rows.rows.items c.nodes_of.ensures c.args.family.now c.args.changed.now
    c.in_ok-rows.ensures.rows
