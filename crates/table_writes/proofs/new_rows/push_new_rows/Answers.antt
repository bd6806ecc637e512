use Rattle.std.proofs.Common.{◌≡◌, ◌++◌, [], ◌∷◌, ◌∙◌}
use Rattle.sqlite.specs.Held.{state}
use Rattle.table_nodes.specs.Missing.{new_rows}
use Rattle.table_schema.proofs.ReadSteps.{known_then, known_weaker}
use Rattle.table_writes.proofs.RowSteps.{one_mark_more}
use Rattle.table_writes.proofs.new_rows.push_new_rows.Goals as goal

pub loop-key-preserved : goal.loop-key-preserved
loop-key-preserved g c = record {
  same = c.push_new_row.ensures.same_reference ∙ c.loop-key.invariant.same;
  known =
      let old = state g.S.Store c.args.tx.now.conn.now in
      let mid = state g.S.Store c.loop-key.tx.conn.now in
      let new = state g.S.Store c.push_new_row.new.tx.conn.now in
      let node = c.args.node.now in
      let rest = c.next.new.self in
      let key = c.in-Some.key.now in
      let near = c.in-Some.near.now in
      let before = c.loop-key.rows.items in
      let after = c.push_new_row.new.rows.items in
      known_weaker old new _ (λ x. after ++ new_rows x node rest ≡ c.args.rows.now.items ++ new_rows x node c.args.first.now.entries)
      (λ x p. one_mark_more x node c.loop-key.key-iterator rest key near before after (c.args.rows.now.items ++ new_rows x node c.args.first.now.entries) c.in-Some.ensures.steps p.0 p.1)
      (known_then old mid new tt (λ x. before ++ new_rows x node c.loop-key.key-iterator ≡ c.args.rows.now.items ++ new_rows x node c.args.first.now.entries)
      (λ x _. after ≡ before ++ new_rows x node ((key, near) ∷ [])) c.loop-key.invariant.known c.in_ok-push_new_row.ensures.reads);
}
