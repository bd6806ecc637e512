use Rattle.std.proofs.Common.{◌≡◌, [], ap, ◌∙◌}
use Rattle.sqlite.specs.Held.{state}
use Rattle.bug_record.specs.Sets.{with_items}
use Rattle.table_content.specs.View.{desk_in}
use Rattle.table_sets.specs.Waiting.{AreKeysOf}
use Rattle.store_contract.specs.Store.{AreWaitingOn}
use Rattle.table_reads.specs.Bugs.{bugs_of}
use Rattle.table_reads.proofs.KeptSteps.{kept_any, kept_then}
use Rattle.table_reads.proofs.WaitingLemmas.{all_wait}
use Rattle.table_reads.proofs.waiting.read_waiting_on.Goals as goal

pub returns-clause-reads : goal.returns-clause-reads
returns-clause-reads g c =
    let old = state g.S.Store c.args.tx.now.conn.now in
    let mid = state g.S.Store c.waiting_keys.new.tx.conn.now in
    let new = state g.S.Store c.read_bugs_of.new.tx.conn.now in
    kept_then old mid new c.in_ok-keys.keys c.read_bugs_of.result (λ k keys. AreKeysOf c.args.number k keys.items) (λ k numbers. numbers ≡ with_items (λ n. n) [] (bugs_of k c.as_slice.result.now))
    (λ k numbers. AreWaitingOn (desk_in k) c.args.number numbers)
    (λ k numbers kept p q. q ∙ ap (λ keys. with_items (λ n. n) [] (bugs_of k keys)) c.as_slice.ensures.value ∙ all_wait k kept c.args.number c.in_ok-keys.keys.items p)
    c.in_ok-keys.ensures.reads
    (kept_any mid new c.read_bugs_of.result (λ k numbers. numbers ≡ with_items (λ n. n) [] (bugs_of k c.as_slice.result.now)) (λ k numbers. numbers ≡ with_items (λ n. n) [] (bugs_of k c.as_slice.result.now)) (λ k numbers kept p. p)
    c.read_bugs_of.ensures.reads)
