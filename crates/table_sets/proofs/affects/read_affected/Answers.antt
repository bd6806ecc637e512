use Rattle.table_sets.proofs.Imports.{text_row, AreNamesOf}
use Rattle.table_schema.proofs.Exports.{◌≡◌, ℕ, List, map, ◌∙◌, Err, rules, ⊤, state, acts_stop, reads_work, answer_is}
use Rattle.table_sets.proofs.affects.read_affected.Goals as goal

pub returns-in_err-rows-clause-reads : goal.returns-in_err-rows-clause-reads
returns-in_err-rows-clause-reads g c =
    let is : c.from_residual.result ≡ Err c.in_err-rows.field-0.0 = search rules in
    rw is (acts_stop (state g.S.Store c.args.tx.now.conn.now) (state g.S.Store c.name_rows.new.tx.conn.now) c.in_err-rows.field-0.0 (λ _. ⊤) _ _ _ (λ _ _. tt) c.in_err-rows.ensures.reads)

pub returns-clause-reads : goal.returns-clause-reads
returns-clause-reads g c =
    reads_work (state g.S.Store c.args.tx.now.conn.now) (state g.S.Store c.name_rows.new.tx.conn.now) c.in_ok-rows.rows c.names_of.result (λ _. ⊤)
    (λ k rows. (ns : List (List ℕ)) × (rows.items ≡ map text_row ns) × AreNamesOf (k.affects c.args.key) ns) (λ k names. names ≡ k.affects c.args.key)
    (λ k p. let is = c.as_slice.ensures.value ∙ p.1 in (answer_is (λ names. names) (λ names. names ≡ k.affects c.args.key) _ c.names_of.result p.2.all (c.names_of.ensures.value _ p.2.valid is), c.names_of.ensures.memory _ p.2.valid is)) c.in_ok-rows.ensures.reads
