use Rattle.std.proofs.Common.{◌≡◌, ℕ, false, drop, get_or, refl, ◌∙◌}
use Rattle.std.specs.BTreeMap.{get}
use Rattle.std.specs.List.{AllByRecursion}
use Rattle.std.specs.Option.{option_or}
use Rattle.std.specs.Ordering.{nat_cmp}
use Rattle.std.proofs.lemmas.List.Elements.{All-from_recursion, All-get_or}
use Rattle.sqlite.specs.Held.{state}
use Rattle.table_content.specs.Content.{Content}
use Rattle.table_content.specs.Kept.{IsKeptContent}
use Rattle.table_schema.proofs.ReadSteps.{known_then, known_weaker}
use Rattle.bug_record.specs.declared.severity.Severity.TheVariants.{Critical}
use Rattle.table_sets.specs.Listed.{keys_in, IsListedSet}
use Rattle.table_sets.specs.declared.listed.ListedSet.{ListedSet}
use Rattle.table_reads.specs.Rows.{row_in, row_for}
use Rattle.table_reads.proofs.ListedLemmas.{listed_came}
use Rattle.table_reads.proofs.listed.add_sets.Goals as goal

abbrev none : ListedSet
none = record { key = 0; fields = record { severity = Critical; closed = false } }

pub loop-set-preserved : goal.loop-set-preserved
loop-set-preserved g c = record {
  same = c.add_listed.ensures.same_reference ∙ c.loop-set.invariant.same;
  known =
      let old = state g.S.Store c.args.tx.now.conn.now in
      let mid = state g.S.Store c.loop-set.tx.conn.now in
      let new = state g.S.Store c.add_listed.new.tx.conn.now in
      let set = get_or c.args.sets.now c.loop-set.set-index none in
      let before : Content → Type 0 =
      λ k. IsKeptContent k → AllByRecursion (IsListedSet k) c.args.sets.now → (n : ℕ) →
      option_or (row_for k c.args.node.now (keys_in (drop c.loop-set.set-index c.args.sets.now)) n) (get nat_cmp c.loop-set.rows n) ≡ option_or (row_for k c.args.node.now (keys_in c.args.sets.now) n) (get nat_cmp c.args.rows.now n) in
      let came : Content → Type 0 =
      λ k. IsKeptContent k → IsListedSet k set → (n : ℕ) → get nat_cmp c.add_listed.new.rows n ≡ option_or (row_in k set.key c.args.node.now n) (get nat_cmp c.loop-set.rows n) in
      known_weaker old new (λ k. before k × came k) _
      (λ k p kept all n.
      let one = All-get_or (IsListedSet k) c.args.sets.now c.loop-set.set-index none c.loop-set-test.true (All-from_recursion (IsListedSet k) c.args.sets.now all) in
      listed_came k c.args.node.now c.args.sets.now c.loop-set.set-index n set none (get nat_cmp c.loop-set.rows n) (get nat_cmp c.add_listed.new.rows n) _
      c.loop-set-test.true refl (p.1 kept one n) (p.0 kept all n))
      (known_then old mid new tt before (λ k _. came k) c.loop-set.invariant.known c.in_ok-add_listed.ensures.reads);
}
