use Rattle.std.proofs.Common.{◌≡◌, ◌<◌, ◌^◌, Ok, IfOk, sym, subst}
use Rattle.sqlite.specs.Held.{state}
use Rattle.bug_record.specs.Sets.{Each}
use Rattle.table_schema.proofs.TableQueries.{answer_is}
use Rattle.table_sets.specs.Waiting.{AreKeysOf}
use Rattle.table_reads.proofs.KeptSteps.{kept_any, kept_work}
use Rattle.table_reads.proofs.WaitingLemmas.{keys_small}
use Rattle.table_reads.proofs.waiting.waiting_keys.Goals as goal

pub returns-clause-reads : goal.returns-clause-reads
returns-clause-reads g c =
    let old = state g.S.Store c.args.tx.now.conn.now in
    let new = state g.S.Store c.read_waiting.new.tx.conn.now in
    kept_work old new c.in_ok-keys.keys c.small_keys.result (AreKeysOf c.args.number) (λ k keys. AreKeysOf c.args.number k keys.items)
    (λ k kept p. (
      answer_is (λ keys. keys.items) (AreKeysOf c.args.number k) c.in_ok-keys.keys c.small_keys.result p (subst (λ xs. IfOk c.small_keys.result (λ keys. keys.items ≡ xs)) c.as_slice.ensures c.small_keys.ensures.value),
      c.small_keys.ensures.memory (subst (Each (λ key. key < 2 ^ 32)) (sym c.as_slice.ensures) (keys_small k kept c.args.number c.in_ok-keys.keys p)),
    ))
    c.in_ok-keys.ensures.serves (kept_any old new (Ok c.in_ok-keys.keys) (AreKeysOf c.args.number) (AreKeysOf c.args.number) (λ k keys kept p. p) c.in_ok-keys.ensures.reads)
