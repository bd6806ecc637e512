use Rattle.std.proofs.Common.{◌≡◌, ◌<◌, ◌^◌, ℕ, drop, get_or, refl, subst, ◌∙◌}
use Rattle.std.specs.BTreeMap.{get}
use Rattle.std.specs.Option.{option_or}
use Rattle.std.specs.Ordering.{nat_cmp}
use Rattle.sqlite.specs.Held.{state}
use Rattle.bug_record.specs.Sets.{Each}
use Rattle.table_content.specs.Content.{Content}
use Rattle.table_content.specs.Kept.{IsKeptContent}
use Rattle.table_schema.proofs.ReadSteps.{known_then, known_weaker}
use Rattle.table_reads.specs.Rows.{row_in, row_for}
use Rattle.table_reads.proofs.ListedLemmas.{set_came}
use Rattle.table_reads.proofs.LoopLemmas.{each_at}
use Rattle.table_reads.proofs.listed.add_keys.Goals as goal

pub loop-key-preserved : goal.loop-key-preserved
loop-key-preserved g c = record {
  same = c.add_set.ensures.same_reference ∙ c.loop-key.invariant.same;
  known =
      let old = state g.S.Store c.args.tx.now.conn.now in
      let mid = state g.S.Store c.loop-key.tx.conn.now in
      let new = state g.S.Store c.add_set.new.tx.conn.now in
      let at = get_or c.args.keys.now c.loop-key.key-index 0 in
      let before : Content → Type 0 =
      λ k. IsKeptContent k → Each (λ j. j < 2 ^ 32) c.args.keys.now → (n : ℕ) →
      option_or (row_for k c.args.node.now (drop c.loop-key.key-index c.args.keys.now) n) (get nat_cmp c.loop-key.rows n) ≡ option_or (row_for k c.args.node.now c.args.keys.now n) (get nat_cmp c.args.rows.now n) in
      let came : Content → Type 0 =
      λ k. IsKeptContent k → (n : ℕ) → get nat_cmp c.add_set.new.rows n ≡ option_or (row_in k c.key_asked.result c.args.node.now n) (get nat_cmp c.loop-key.rows n) in
      known_weaker old new (λ k. before k × came k) _
      (λ k p kept all n.
      let same = c.key_asked.ensures (each_at (λ j. j < 2 ^ 32) c.args.keys.now c.loop-key.key-index 0 c.loop-key-test.true all) in
      set_came k c.args.node.now c.args.keys.now c.loop-key.key-index at 0 n (get nat_cmp c.loop-key.rows n) (get nat_cmp c.add_set.new.rows n) _
      c.loop-key-test.true refl (subst (λ j. get nat_cmp c.add_set.new.rows n ≡ option_or (row_in k j c.args.node.now n) (get nat_cmp c.loop-key.rows n)) same (p.1 kept n)) (p.0 kept all n))
      (known_then old mid new tt before (λ k _. came k) c.loop-key.invariant.known c.in_ok-add_set.ensures.reads);
}
