use Rattle.std.proofs.Common.{◌≡◌, Option, Result, Ok, sym, ap, ◌∙◌}
use Rattle.std.specs.Option.{option_and_then}
use Rattle.std.specs.Prelude.{⊤}
use Rattle.sqlite.specs.Held.{state}
use Rattle.base_faults.specs.declared.store_fault.StoreFault.{StoreFault}
use Rattle.table_schema.proofs.StepLemmas.{reads_work}
use Rattle.table_sets.specs.Listed.{row_fields}
use Rattle.table_sets.specs.declared.listed.RowFields.{RowFields}
use Rattle.table_reads.proofs.listed.read_row_fields.Goals as goal

pub returns-in-Some-clause-reads : goal.returns-in-Some-clause-reads
returns-in-Some-clause-reads g c =
    let old = state g.S.Store c.args.tx.now.conn.now in
    let new = state g.S.Store c.read_fields.new.tx.conn.now in
    let answer : Result (Option RowFields) StoreFault = Ok c.row_fields.result in
    reads_work old new c.in_ok-fields.field-0 answer (λ _. ⊤) (λ k fields. fields ≡ k.fields c.args.key) (λ k fields. fields ≡ option_and_then row_fields (k.fields c.args.key))
    (λ k p. (c.row_fields.ensures ∙ ap (option_and_then row_fields) (sym c.in-Some.is ∙ p), tt)) c.in_ok-fields.ensures.reads
