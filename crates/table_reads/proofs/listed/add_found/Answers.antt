use Rattle.std.proofs.Common.{◌≡◌, ℕ, if◌then◌else◌, sym, ap, ◌∙◌}
use Rattle.std.specs.BTreeMap.{get}
use Rattle.std.specs.Option.{option_or}
use Rattle.std.specs.Ordering.{nat_cmp}
use Rattle.std.specs.Prelude.{⊤}
use Rattle.sqlite.specs.Held.{state}
use Rattle.table_content.specs.Kept.{IsKeptContent}
use Rattle.table_schema.proofs.StepLemmas.{reads_work, done}
use Rattle.table_reads.specs.Found.{is_found_in}
use Rattle.table_reads.specs.Rows.{row_among}
use Rattle.table_reads.proofs.KeptSteps.{reads_then}
use Rattle.table_reads.proofs.listed.add_found.Goals as goal

pub returns-then-not-found-clause-reads : goal.returns-then-not-found-clause-reads
returns-then-not-found-clause-reads g c =
    let old = state g.S.Store c.args.tx.now.conn.now in
    let new = state g.S.Store c.read_found_in.new.tx.conn.now in
    reads_work old new c.in_ok-found.found done (λ _. ⊤) (λ k found. IsKeptContent k → found ≡ is_found_in k c.args.key c.args.node.now c.args.fields.closed)
    (λ k _. IsKeptContent k → (n : ℕ) → get nat_cmp c.args.rows.now n
    ≡ (if is_found_in k c.args.key c.args.node.now c.args.fields.closed then option_or (row_among c.args.fields (k.members c.args.key) n) (get nat_cmp c.args.rows.now n) else get nat_cmp c.args.rows.now n))
    (λ k p. (λ kept n. sym (ap (λ b. if b then option_or (row_among c.args.fields (k.members c.args.key) n) (get nat_cmp c.args.rows.now n) else get nat_cmp c.args.rows.now n) (sym (p kept) ∙ c.if-not-found.true)), tt))
    c.in_ok-found.ensures.reads

pub returns-clause-reads : goal.returns-clause-reads
returns-clause-reads g c =
    let old = state g.S.Store c.args.tx.now.conn.now in
    let mid = state g.S.Store c.read_found_in.new.tx.conn.now in
    let new = state g.S.Store c.add_bugs.new.tx.conn.now in
    reads_then old mid new c.in_ok-found.found c.add_bugs.result (λ k found. IsKeptContent k → found ≡ is_found_in k c.args.key c.args.node.now c.args.fields.closed)
    (λ k _. (n : ℕ) → get nat_cmp c.add_bugs.new.rows n ≡ option_or (row_among c.args.fields (k.members c.args.key) n) (get nat_cmp c.args.rows.now n))
    (λ k _. IsKeptContent k → (n : ℕ) → get nat_cmp c.add_bugs.new.rows n
    ≡ (if is_found_in k c.args.key c.args.node.now c.args.fields.closed then option_or (row_among c.args.fields (k.members c.args.key) n) (get nat_cmp c.args.rows.now n) else get nat_cmp c.args.rows.now n))
    (λ k _ p q kept n. q n ∙ sym (ap (λ b. if b then option_or (row_among c.args.fields (k.members c.args.key) n) (get nat_cmp c.args.rows.now n) else get nat_cmp c.args.rows.now n) (sym (p kept) ∙ c.if-not-found.false)))
    c.in_ok-found.ensures.reads c.add_bugs.ensures.reads
