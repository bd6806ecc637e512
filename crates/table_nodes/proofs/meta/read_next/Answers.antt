use Rattle.table_schema.proofs.Exports.{◌≡◌, [], ◌∷◌, ◌∙◌, Err, rules, ⊤, state, number_row, acts_stop, reads_work}
use Rattle.table_nodes.proofs.meta.read_next.Goals as goal

pub returns-in_err-rows-clause-reads : goal.returns-in_err-rows-clause-reads
returns-in_err-rows-clause-reads g c =
    let is : c.from_residual.result ≡ Err c.in_err-rows.field-0.0 = search rules in
    rw is (acts_stop (state g.S.Store c.args.tx.now.conn.now) (state g.S.Store c.next_rows.new.tx.conn.now) c.in_err-rows.field-0.0 (λ _. ⊤) _ _ _ (λ _ _. tt) c.in_err-rows.ensures.reads)

pub returns-clause-reads : goal.returns-clause-reads
returns-clause-reads g c =
    reads_work (state g.S.Store c.args.tx.now.conn.now) (state g.S.Store c.next_rows.new.tx.conn.now) c.in_ok-rows.rows c.next_in.result (λ _. ⊤) (λ k rows. rows.items ≡ number_row k.next ∷ []) (λ k next. next ≡ k.next)
    (λ k p. let is = c.as_slice.ensures.value ∙ p in (c.next_in.ensures.value _ is, c.next_in.ensures.memory _ is)) c.in_ok-rows.ensures.reads
