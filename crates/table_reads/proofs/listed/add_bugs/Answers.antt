use Rattle.std.proofs.Common.{◌≡◌, ℕ, List, subst, ◌∙◌}
use Rattle.std.specs.BTreeMap.{get}
use Rattle.std.specs.Option.{option_or}
use Rattle.std.specs.Ordering.{nat_cmp}
use Rattle.std.specs.Prelude.{OnOk, ⊤}
use Rattle.sqlite.specs.Held.{state}
use Rattle.bug_record.specs.declared.bug.Member.{Member}
use Rattle.table_schema.proofs.StepLemmas.{reads_work}
use Rattle.table_reads.specs.Rows.{row_among}
use Rattle.table_reads.proofs.listed.add_bugs.Goals as goal

pub returns-clause-reads : goal.returns-clause-reads
returns-clause-reads g c =
    let old = state g.S.Store c.args.tx.now.conn.now in
    let new = state g.S.Store c.read_members.new.tx.conn.now in
    reads_work old new c.in_ok-members.members c.put_bugs.result (λ _. ⊤) (λ k members. members ≡ k.members c.args.key)
    (λ k _. (n : ℕ) → get nat_cmp c.put_bugs.new.rows n ≡ option_or (row_among c.args.fields (k.members c.args.key) n) (get nat_cmp c.args.rows.now n))
    (λ k p. (
      subst (λ (ms : List Member). OnOk c.put_bugs.result ((n : ℕ) → get nat_cmp c.put_bugs.new.rows n ≡ option_or (row_among c.args.fields ms n) (get nat_cmp c.args.rows.now n)))
          (c.as_slice.ensures ∙ p) c.put_bugs.ensures.value,
      c.put_bugs.ensures.memory,
    )) c.in_ok-members.ensures.reads
