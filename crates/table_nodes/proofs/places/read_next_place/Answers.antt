use Rattle.table_schema.proofs.Exports.{◌≡◌, ◌∙◌, Err, rules, ⊤, state, next_above, AreGreatest, places_of, acts_stop, reads_work}
use Rattle.table_nodes.proofs.ReadPlace.{above_it}
use Rattle.table_nodes.proofs.places.read_next_place.Goals as goal

pub returns-in_err-rows-clause-reads : goal.returns-in_err-rows-clause-reads
returns-in_err-rows-clause-reads g c =
    let is : c.from_residual.result ≡ Err c.in_err-rows.field-0.0 = search rules in
    rw is (acts_stop (state g.S.Store c.args.tx.now.conn.now) (state g.S.Store c.last_rows.new.tx.conn.now) c.in_err-rows.field-0.0 (λ _. ⊤) _ _ _ (λ _ _. tt) c.in_err-rows.ensures.reads)

pub returns-clause-reads : goal.returns-clause-reads
returns-clause-reads g c =
    reads_work (state g.S.Store c.args.tx.now.conn.now) (state g.S.Store c.last_rows.new.tx.conn.now) c.in_ok-rows.rows c.above_row.result (λ _. ⊤)
    (λ k rows. AreGreatest (places_of (k.outcomes c.args.id.now)) rows.items) (λ k place. place ≡ next_above (places_of (k.outcomes c.args.id.now)))
    (λ k p. let is = c.as_slice.ensures.value ∙ p.are in (above_it _ p.greatest c.above_row.result p.next (c.above_row.ensures.value _ is), c.above_row.ensures.memory _ is)) c.in_ok-rows.ensures.reads
