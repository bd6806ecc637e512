use Rattle.std.proofs.Common.{◌≡◌, ℕ, if◌then◌else◌, sym, ◌∙◌}
use Rattle.std.specs.BTreeMap.{get}
use Rattle.std.specs.Option.{option_or, option_and_then}
use Rattle.std.specs.Ordering.{nat_cmp}
use Rattle.std.specs.Prelude.{⊤}
use Rattle.sqlite.specs.Held.{state}
use Rattle.table_content.specs.Kept.{IsKeptContent}
use Rattle.table_schema.proofs.StepLemmas.{reads_work, done}
use Rattle.table_reads.specs.Found.{is_found_in}
use Rattle.table_sets.specs.Listed.{row_fields}
use Rattle.table_reads.specs.Rows.{row_among, row_in}
use Rattle.table_reads.proofs.KeptSteps.{reads_then}
use Rattle.table_reads.proofs.ListedLemmas.{row_listed, row_unlisted}
use Rattle.table_reads.proofs.listed.add_set.Goals as goal

pub returns-in-Some-clause-reads : goal.returns-in-Some-clause-reads
returns-in-Some-clause-reads g c =
    let old = state g.S.Store c.args.tx.now.conn.now in
    let mid = state g.S.Store c.read_row_fields.new.tx.conn.now in
    let new = state g.S.Store c.add_found.new.tx.conn.now in
    reads_then old mid new c.in_ok-fields.field-0 c.add_found.result (λ k fields. fields ≡ option_and_then row_fields (k.fields c.args.key))
    (λ k _. IsKeptContent k → (n : ℕ) → get nat_cmp c.add_found.new.rows n
    ≡ (if is_found_in k c.args.key c.args.node.now c.in-Some.fields.closed then option_or (row_among c.in-Some.fields (k.members c.args.key) n) (get nat_cmp c.args.rows.now n) else get nat_cmp c.args.rows.now n))
    (λ k _. IsKeptContent k → (n : ℕ) → get nat_cmp c.add_found.new.rows n ≡ option_or (row_in k c.args.key c.args.node.now n) (get nat_cmp c.args.rows.now n))
    (λ k _ p q kept n. q kept n ∙ sym (row_listed k c.args.key c.args.node.now n (get nat_cmp c.args.rows.now n) kept c.in-Some.fields (sym p ∙ c.in-Some.is)))
    c.in_ok-fields.ensures.reads c.add_found.ensures.reads

pub returns-in-None-clause-reads : goal.returns-in-None-clause-reads
returns-in-None-clause-reads g c =
    let old = state g.S.Store c.args.tx.now.conn.now in
    let mid = state g.S.Store c.read_row_fields.new.tx.conn.now in
    reads_work old mid c.in_ok-fields.field-0 done (λ _. ⊤) (λ k fields. fields ≡ option_and_then row_fields (k.fields c.args.key))
    (λ k _. IsKeptContent k → (n : ℕ) → get nat_cmp c.args.rows.now n ≡ option_or (row_in k c.args.key c.args.node.now n) (get nat_cmp c.args.rows.now n))
    (λ k p. (λ kept n. sym (row_unlisted k c.args.key c.args.node.now n (get nat_cmp c.args.rows.now n) kept (sym p ∙ c.in-None.is)), tt))
    c.in_ok-fields.ensures.reads
