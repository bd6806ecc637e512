use Rattle.std.proofs.Common.{◌≡◌, List, Some, Ok, sym, ap, ◌∙◌}
use Rattle.std.specs.Prelude.{IfSome}
use Rattle.sqlite.specs.Held.{state}
use Rattle.store_keys.specs.Keys.{key_of}
use Rattle.table_content.specs.declared.edit.Edit.{Edit}
use Rattle.table_schema.proofs.ReadSteps.{known_first, known_then, known_answer}
use Rattle.table_writes.specs.Plans.{IsStayOf}
use Rattle.table_writes.proofs.staying.stay_set.Goals as goal

pub returns-clause-reads : goal.returns-clause-reads
returns-clause-reads g c =
    let old = state g.S.Store c.args.tx.now.conn.now in
    let mid = state g.S.Store c.read_fields.new.tx.conn.now in
    let new = state g.S.Store c.stay_image.new.tx.conn.now in
    let i = c.args.image.now in
    let t = c.args.family.now in
    let key = c.in_ok-key.key in
    let read = c.in_ok-fields.field-0 in
    let fields = c.in-Some.fields in
    let edits = c.in_ok-stay_image.field-0 in
    let is_key : key ≡ key_of i = c.in_ok-key.ensures.same ∙ c.key_of.ensures in
    known_answer old new (Ok (Some edits)) (λ x. (read ≡ x.fields key) × (x.fields (key_of i) ≡ Some fields → IsStayOf x t i edits))
    (λ x p. IfSome p (λ (es : List Edit). IsStayOf x t i es))
    (λ x p. (p.1 (ap x.fields (sym is_key) ∙ sym p.0 ∙ c.in-Some.is), tt))
    (known_then old mid new edits (λ x. read ≡ x.fields key) (λ x es. x.fields (key_of i) ≡ Some fields → IsStayOf x t i es)
    (known_first old mid read (λ x row. row ≡ x.fields key) c.in_ok-fields.ensures.reads) c.in_ok-stay_image.ensures.reads)
