use Rattle.std.proofs.Common.{◌≡◌, ℕ, if◌then◌else◌, sym, subst, ◌∙◌}
use Rattle.std.specs.BTreeMap.{get}
use Rattle.std.specs.Option.{option_or}
use Rattle.std.specs.Ordering.{nat_cmp}
use Rattle.std.specs.Prelude.{⊤}
use Rattle.sqlite.specs.Held.{state}
use Rattle.table_content.specs.Kept.{IsKeptContent}
use Rattle.table_schema.proofs.StepLemmas.{acts_weaker}
use Rattle.table_sets.specs.Listed.{IsListedSet}
use Rattle.table_reads.specs.Found.{is_found_in}
use Rattle.table_reads.specs.Rows.{row_among, row_in}
use Rattle.table_reads.proofs.ListedLemmas.{row_listed, listed_small}
use Rattle.table_reads.proofs.listed.add_listed.Goals as goal

pub returns-clause-reads : goal.returns-clause-reads
returns-clause-reads g c =
    let old = state g.S.Store c.args.tx.now.conn.now in
    let new = state g.S.Store c.add_found.new.tx.conn.now in
    let set = c.args.set.now in
    acts_weaker old new c.add_found.result (λ _. ⊤) (λ _. ⊤)
    (λ k d _. (d ≡ k) × (IsKeptContent k → (n : ℕ) → get nat_cmp c.add_found.new.rows n
    ≡ (if is_found_in k c.key_asked.result c.args.node.now set.fields.closed then option_or (row_among set.fields (k.members c.key_asked.result) n) (get nat_cmp c.args.rows.now n) else get nat_cmp c.args.rows.now n)))
    (λ k d _. (d ≡ k) × (IsKeptContent k → IsListedSet k set → (n : ℕ) → get nat_cmp c.add_found.new.rows n ≡ option_or (row_in k set.key c.args.node.now n) (get nat_cmp c.args.rows.now n)))
    (λ k free. free)
    (λ k d _ p. (
      p.0,
      λ kept is n.
          subst (λ j. get nat_cmp c.add_found.new.rows n
          ≡ (if is_found_in k j c.args.node.now set.fields.closed then option_or (row_among set.fields (k.members j) n) (get nat_cmp c.args.rows.now n) else get nat_cmp c.args.rows.now n))
          (c.key_asked.ensures (listed_small k kept set is)) (p.1 kept n)
          ∙ sym (row_listed k set.key c.args.node.now n (get nat_cmp c.args.rows.now n) kept set.fields is),
    ))
    c.add_found.ensures.reads
