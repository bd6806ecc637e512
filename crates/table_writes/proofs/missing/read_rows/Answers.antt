use Rattle.std.proofs.Common.{◌+◌, take, Ok, subst, ◌∙◌}
use Rattle.std.proofs.lemmas.List.{take_all}
use Rattle.sqlite.specs.Held.{state}
use Rattle.table_content.specs.Kept.{IsKeptContent}
use Rattle.table_nodes.specs.Missing.{AreRowsOn}
use Rattle.table_schema.proofs.ReadSteps.{known_then, known_weaker, known_answer}
use Rattle.table_writes.specs.Steps.{AddsRows}
use Rattle.table_writes.proofs.RowSteps.{one_node_more}
use Rattle.table_writes.proofs.missing.read_rows.Goals as goal

pub loop-node-preserved : goal.loop-node-preserved
loop-node-preserved g c = record {
  same = c.push_rows_of.ensures.same_reference ∙ c.loop-node.invariant.same;
  known =
      let old = state g.S.Store c.args.tx.now.conn.now in
      let mid = state g.S.Store c.loop-node.tx.conn.now in
      let new = state g.S.Store c.push_rows_of.new.tx.conn.now in
      let u = c.args.family.now in
      let nodes = c.args.nodes.now in
      let at = c.loop-node.node-index in
      let before = c.loop-node.rows.items in
      let after = c.push_rows_of.new.rows.items in
      known_weaker old new _ (λ x. IsKeptContent x → AreRowsOn x u (take (at + 1) nodes) after)
      (λ x p. one_node_more x u nodes at c.node-item.result before after c.requires.once c.requires.known c.loop-node-test.true c.node-item.is p.0 p.1)
      (known_then old mid new tt (λ x. IsKeptContent x → AreRowsOn x u (take at nodes) before)
      (λ x _. AddsRows x u c.node-item.result before after) c.loop-node.invariant.known c.in_ok-push_rows_of.ensures.reads);
}

pub returns-clause-reads : goal.returns-clause-reads
returns-clause-reads g c =
    let old = state g.S.Store c.args.tx.now.conn.now in
    let new = state g.S.Store c.loop-node.tx.conn.now in
    let u = c.args.family.now in
    let nodes = c.args.nodes.now in
    let rows = c.loop-node.rows in
    known_answer old new (Ok rows) (λ x. IsKeptContent x → AreRowsOn x u (take c.loop-node.node-index nodes) rows.items)
    (λ x rows. IsKeptContent x → AreRowsOn x u nodes rows.items)
    (λ x p. (λ kept. subst (λ ns. AreRowsOn x u ns rows.items) (take_all c.loop-node.node-index nodes c.loop-node-test.false) (p kept), tt)) c.loop-node.invariant.known
