use Rattle.std.proofs.Common.{◌≡◌, ◌++◌, ◌+◌, drop, ◌∙◌, rules}
use Rattle.sqlite.specs.Held.{state}
use Rattle.table_encodings.specs.Outcomes.{numbered}
use Rattle.table_content.specs.View.{with_their_numbers}
use Rattle.table_schema.proofs.ReadSteps.{known_then, known_weaker}
use Rattle.table_writes.proofs.OutcomeSteps.{one_more}
use Rattle.table_writes.proofs.read_back.read_all_numbered.Goals as goal

pub loop-one-preserved : goal.loop-one-preserved
loop-one-preserved g c = record {
  same = c.read_numbered.ensures.same_reference ∙ c.loop-one.invariant.same;
  known =
      let old = state g.S.Store c.args.tx.now.conn.now in
      let mid = state g.S.Store c.loop-one.tx.conn.now in
      let new = state g.S.Store c.read_numbered.new.tx.conn.now in
      let all = c.args.told.now in
      known_weaker old new _ (λ k. _ ++ with_their_numbers (k.outcome_numbers c.args.id.now) (drop (c.loop-one.one-index + 1) all) ≡ with_their_numbers (k.outcome_numbers c.args.id.now) all)
      (λ k p. one_more (k.outcome_numbers c.args.id.now) all c.loop-one.one-index c.one-item.result c.one-item.result c.loop-one.outcomes _ c.in_ok-outcome.outcome c.loop-one-test.true c.one-item.is p.1 (search rules) ∙ p.0)
      (known_then old mid new c.in_ok-outcome.outcome
      (λ k. c.loop-one.outcomes ++ with_their_numbers (k.outcome_numbers c.args.id.now) (drop c.loop-one.one-index all) ≡ with_their_numbers (k.outcome_numbers c.args.id.now) all)
      (λ k o. o ≡ numbered (k.outcome_numbers c.args.id.now c.one-item.result.place) c.one-item.result.outcome)
      c.loop-one.invariant.known c.in_ok-outcome.ensures.reads);
}
