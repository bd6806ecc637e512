use Rattle.std.proofs.Common.{◌≡◌, ◌+◌, ℕ, take, [], ◌∷◌, ◌∙◌}
use Rattle.std.specs.Option.{option_or}
use Rattle.std.specs.Ordering.{nat_cmp}
use Rattle.std.specs.BTreeMap.{get}
use Rattle.sqlite.specs.Held.{state}
use Rattle.version_marks.specs.Nearest.{nearest_on}
use Rattle.table_schema.proofs.ReadSteps.{known_then, known_weaker}
use Rattle.table_writes.proofs.MarkedLemmas.{one_further}
use Rattle.table_writes.proofs.first_marks.read_first_marks.Goals as goal

pub loop-node-preserved : goal.loop-node-preserved
loop-node-preserved g c = record {
  same = c.read_marks_of.ensures.same_reference ∙ c.loop-node.invariant.same;
  known =
      let old = state g.S.Store c.args.tx.now.conn.now in
      let mid = state g.S.Store c.loop-node.tx.conn.now in
      let new = state g.S.Store c.read_marks_of.new.tx.conn.now in
      let line = c.args.line.now in
      let at = c.loop-node.node-index in
      known_weaker old new _ (λ x. (k : ℕ) → get nat_cmp c.read_marks_of.new.first k ≡ nearest_on (x.found k) (x.fixed k) (take (at + 1) line))
      (λ x p. one_further x line at c.node-item.result c.loop-node.first c.read_marks_of.new.first c.loop-node-test.true c.node-item.is p.0 p.1)
      (known_then old mid new tt (λ x. (k : ℕ) → get nat_cmp c.loop-node.first k ≡ nearest_on (x.found k) (x.fixed k) (take at line))
      (λ x _. (k : ℕ) → get nat_cmp c.read_marks_of.new.first k ≡ option_or (get nat_cmp c.loop-node.first k) (nearest_on (x.found k) (x.fixed k) (c.node-item.result ∷ [])))
      c.loop-node.invariant.known c.in_ok-read_marks_of.ensures.reads);
}
