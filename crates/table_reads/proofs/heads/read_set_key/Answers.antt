use Rattle.std.proofs.Common.{◌≡◌, ◌<◌, ℕ, Some, Result, Err, sym, ap, ◌∙◌, subst}
use Rattle.std.specs.Prelude.{◌^◌}
use Rattle.sqlite.specs.Held.{state}
use Rattle.base_faults.specs.declared.store_fault.StoreFault.{StoreFault}
use Rattle.base_faults.specs.declared.store_fault.StoreFault.TheVariants.{Foreign}
use Rattle.store_keys.specs.Keys.{key_of}
use Rattle.table_reads.proofs.KeyLemmas.{key_small}
use Rattle.table_reads.specs.Asked.{IsSetIn}
use Rattle.table_reads.proofs.OpenLemmas.{first_small, key_there, if_same}
use Rattle.table_reads.proofs.WhereSteps.{where_work}
use Rattle.table_reads.proofs.heads.read_set_key.Goals as goal

pub returns-in-Some-clause-reads : goal.returns-in-Some-clause-reads
returns-in-Some-clause-reads g c =
    let old = state g.S.Store c.args.tx.now.conn.now in
    let new = state g.S.Store c.read_key.new.tx.conn.now in
    where_work old new c.in_ok-key.field-0 c.small_key.result (IsSetIn c.args.image.now) (λ k key. key ≡ k.key c.key_asked.result) (λ k key. k.key (key_of c.args.image.now) ≡ Some key)
    (λ k asked p.
    let is : k.key (key_of c.args.image.now) ≡ Some c.in-Some.key = ap (λ n. k.key n) (sym (c.key_asked.ensures (subst (λ n. n < 2 ^ 32) (sym c.key_of.ensures) (first_small c.args.image.now k asked)) ∙ c.key_of.ensures)) ∙ sym p ∙ c.in-Some.is in (
      if_same c.small_key.result (λ key. key ≡ c.in-Some.key) (λ key. k.key (key_of c.args.image.now) ≡ Some key) (λ key e. is ∙ ap Some (sym e)) c.small_key.ensures.value,
      c.small_key.ensures.memory (key_small k asked.kept (key_of c.args.image.now) c.in-Some.key is),
    ))
    c.in_ok-key.ensures.serves c.in_ok-key.ensures.reads

pub returns-in-None-clause-reads : goal.returns-in-None-clause-reads
returns-in-None-clause-reads g c =
    let old = state g.S.Store c.args.tx.now.conn.now in
    let new = state g.S.Store c.read_key.new.tx.conn.now in
    let r : Result ℕ StoreFault = Err Foreign in
    where_work old new c.in_ok-key.field-0 r (IsSetIn c.args.image.now) (λ k key. key ≡ k.key c.key_asked.result) (λ k key. k.key (key_of c.args.image.now) ≡ Some key)
    (λ k asked p. (tt, absurd (key_there c.args.image.now k asked (ap (λ n. k.key n) (sym (c.key_asked.ensures (subst (λ n. n < 2 ^ 32) (sym c.key_of.ensures) (first_small c.args.image.now k asked)) ∙ c.key_of.ensures)) ∙ sym p ∙ c.in-None.is))))
    c.in_ok-key.ensures.serves c.in_ok-key.ensures.reads
