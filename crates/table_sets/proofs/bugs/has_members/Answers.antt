use Rattle.table_sets.proofs.Imports.{AreMemberRows}
use Rattle.table_schema.proofs.Exports.{◌≡◌, sym, subst, Ok, Err, true, rules, ⊤, state, acts_stop, reads_work}
use Rattle.table_sets.proofs.bugs.has_members.Goals as goal

pub returns-in_err-rows-clause-reads : goal.returns-in_err-rows-clause-reads
returns-in_err-rows-clause-reads g c =
    let is : c.from_residual.result ≡ Err c.in_err-rows.field-0.0 = search rules in
    rw is (acts_stop (state g.S.Store c.args.tx.now.conn.now) (state g.S.Store c.member_rows.new.tx.conn.now) c.in_err-rows.field-0.0 (λ _. ⊤) _ _ _ (λ _ _. tt) c.in_err-rows.ensures.reads)

pub returns-clause-reads : goal.returns-clause-reads
returns-clause-reads g c =
    reads_work (state g.S.Store c.args.tx.now.conn.now) (state g.S.Store c.member_rows.new.tx.conn.now) c.in_ok-rows.rows (Ok c.are_rows_of.result) (λ _. ⊤) (λ k rows. AreMemberRows rows.items (k.members c.args.key))
    (λ k same. same ≡ true → k.members c.args.key ≡ c.args.members.now)
    (λ k p. (c.are_rows_of.ensures (k.members c.args.key) (subst (λ rows. AreMemberRows rows (k.members c.args.key)) (sym c.as_slice.ensures.value) p), tt)) c.in_ok-rows.ensures.reads
