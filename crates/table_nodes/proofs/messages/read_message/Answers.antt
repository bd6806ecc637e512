use Rattle.table_nodes.proofs.Imports.{AreMessageRows}
use Rattle.table_schema.proofs.Exports.{◌≡◌, sym, subst, Err, rules, ⊤, state, acts_stop, reads_work}
use Rattle.table_nodes.proofs.messages.read_message.Goals as goal

pub returns-in_err-rows-clause-reads : goal.returns-in_err-rows-clause-reads
returns-in_err-rows-clause-reads g c =
    let is : c.from_residual.result ≡ Err c.in_err-rows.field-0.0 = search rules in
    rw is (acts_stop (state g.S.Store c.args.tx.now.conn.now) (state g.S.Store c.message_rows.new.tx.conn.now) c.in_err-rows.field-0.0 (λ _. ⊤) _ _ _ (λ _ _. tt) c.in_err-rows.ensures.reads)

pub returns-clause-reads : goal.returns-clause-reads
returns-clause-reads g c =
    reads_work (state g.S.Store c.args.tx.now.conn.now) (state g.S.Store c.message_rows.new.tx.conn.now) c.in_ok-rows.rows c.message_of.result (λ _. ⊤) (λ k rows. AreMessageRows rows.items (k.messages c.args.id.now)) (λ k message. message ≡ k.messages c.args.id.now)
    (λ k p. let are = subst (λ rows. AreMessageRows rows (k.messages c.args.id.now)) (sym c.as_slice.ensures.value) p in (c.message_of.ensures.value _ are, c.message_of.ensures.memory _ are)) c.in_ok-rows.ensures.reads
