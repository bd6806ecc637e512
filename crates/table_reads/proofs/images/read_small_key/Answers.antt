use Rattle.std.proofs.Common.{◌≡◌, ℕ, Option, Result, Ok, Err, sym, ◌∙◌, rules}
use Rattle.sqlite.specs.Held.{state}
use Rattle.base_faults.specs.declared.store_fault.StoreFault.{StoreFault}
use Rattle.table_reads.proofs.KeptSteps.{kept_any, kept_work}
use Rattle.table_reads.proofs.KeyLemmas.{key_small}
use Rattle.table_reads.proofs.images.read_small_key.Goals as goal

pub returns-in_err-small_key-in-Some-clause-reads : goal.returns-in_err-small_key-in-Some-clause-reads
returns-in_err-small_key-in-Some-clause-reads g c =
    let old = state g.S.Store c.args.tx.now.conn.now in
    let new = state g.S.Store c.read_key.new.tx.conn.now in
    let fault = c.in_err-small_key-in-Some.field-0.0 in
    let r : Result (Option ℕ) StoreFault = Err fault in
    let is : c.from_residual-in_err-small_key-in-Some.result ≡ r = search rules in
    rw is (kept_work old new c.in_ok-key.field-0 r (λ k key. key ≡ k.key c.args.number) (λ k key. key ≡ k.key c.args.number)
    (λ k kept p. (tt, c.in_err-small_key-in-Some.ensures.memory (key_small k kept c.args.number c.in-Some.key (sym p ∙ c.in-Some.is))))
    c.in_ok-key.ensures.serves (kept_any old new (Ok c.in_ok-key.field-0) (λ k key. key ≡ k.key c.args.number) (λ k key. key ≡ k.key c.args.number) (λ k key kept p. p) c.in_ok-key.ensures.reads))
