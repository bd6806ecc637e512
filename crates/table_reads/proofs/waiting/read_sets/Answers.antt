use Rattle.std.proofs.Common.{◌≡◌, ◌+◌, drop, get_or, [], refl, ◌∙◌}
use Rattle.sqlite.specs.Held.{state}
use Rattle.bug_record.specs.Sets.{with_items}
use Rattle.bug_record.specs.Images.{numbers_of}
use Rattle.table_schema.proofs.ReadSteps.{known_then, known_weaker}
use Rattle.table_reads.specs.Bugs.{bugs_of}
use Rattle.table_reads.proofs.LoopLemmas.{one_more}
use Rattle.table_reads.proofs.waiting.read_sets.Goals as goal

pub loop-key-preserved : goal.loop-key-preserved
loop-key-preserved g c = record {
  same = c.add_set.ensures.same_reference ∙ c.loop-key.invariant.same;
  known =
      let old = state g.S.Store c.args.tx.now.conn.now in
      let mid = state g.S.Store c.loop-key.tx.conn.now in
      let new = state g.S.Store c.add_set.new.tx.conn.now in
      known_weaker old new _ (λ k. with_items (λ n. n) c.add_set.new.numbers.keys (bugs_of k (drop (c.loop-key.key-index + 1) c.args.keys.now)) ≡ with_items (λ n. n) [] (bugs_of k c.args.keys.now))
      (λ k p. one_more k c.args.keys.now c.loop-key.key-index (get_or c.args.keys.now c.loop-key.key-index 0) 0 c.loop-key.numbers.keys c.add_set.new.numbers.keys c.loop-key-test.true refl p.1 ∙ p.0)
      (known_then old mid new tt (λ k. with_items (λ n. n) c.loop-key.numbers.keys (bugs_of k (drop c.loop-key.key-index c.args.keys.now)) ≡ with_items (λ n. n) [] (bugs_of k c.args.keys.now))
      (λ k _. c.add_set.new.numbers.keys ≡ with_items (λ n. n) c.loop-key.numbers.keys (numbers_of (k.members (get_or c.args.keys.now c.loop-key.key-index 0))))
      c.loop-key.invariant.known c.in_ok-add_set.ensures.reads);
}
