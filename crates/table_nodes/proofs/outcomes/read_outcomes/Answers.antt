use Rattle.table_nodes.proofs.Imports.{AreOutcomeRows}
use Rattle.table_schema.proofs.Exports.{◌≡◌, sym, subst, Err, rules, ⊤, state, acts_stop, reads_work}
use Rattle.table_nodes.proofs.outcomes.read_outcomes.Goals as goal

pub returns-in_err-rows-clause-reads : goal.returns-in_err-rows-clause-reads
returns-in_err-rows-clause-reads g c =
    let is : c.from_residual.result ≡ Err c.in_err-rows.field-0.0 = search rules in
    rw is (acts_stop (state g.S.Store c.args.tx.now.conn.now) (state g.S.Store c.outcome_rows.new.tx.conn.now) c.in_err-rows.field-0.0 (λ _. ⊤) _ _ _ (λ _ _. tt) c.in_err-rows.ensures.reads)

pub returns-clause-reads : goal.returns-clause-reads
returns-clause-reads g c =
    reads_work (state g.S.Store c.args.tx.now.conn.now) (state g.S.Store c.outcome_rows.new.tx.conn.now) c.in_ok-rows.rows c.outcomes_of.result (λ _. ⊤) (λ k rows. AreOutcomeRows rows.items (k.outcomes c.args.id.now)) (λ k outcomes. outcomes ≡ k.outcomes c.args.id.now)
    (λ k p. let are = subst (λ rows. AreOutcomeRows rows (k.outcomes c.args.id.now)) (sym c.as_slice.ensures.value) p in (c.outcomes_of.ensures.value _ are, c.outcomes_of.ensures.memory _ are)) c.in_ok-rows.ensures.reads
