use Rattle.table_sets.proofs.Imports.{kind_rows}
use Rattle.table_schema.proofs.Exports.{◌≡◌, option_map, ◌∙◌, Err, rules, ⊤, state, acts_stop, reads_work}
use Rattle.table_sets.proofs.near_kind.read_near_kind.Goals as goal

pub returns-in_err-rows-clause-reads : goal.returns-in_err-rows-clause-reads
returns-in_err-rows-clause-reads g c =
    let is : c.from_residual.result ≡ Err c.in_err-rows.field-0.0 = search rules in
    rw is (acts_stop (state g.S.Store c.args.tx.now.conn.now) (state g.S.Store c.near_rows.new.tx.conn.now) c.in_err-rows.field-0.0 (λ _. ⊤) _ _ _ (λ _ _. tt) c.in_err-rows.ensures.reads)

pub returns-clause-reads : goal.returns-clause-reads
returns-clause-reads g c =
    reads_work (state g.S.Store c.args.tx.now.conn.now) (state g.S.Store c.near_rows.new.tx.conn.now) c.in_ok-rows.rows c.kind_in.result (λ _. ⊤)
    (λ k rows. rows.items ≡ kind_rows (option_map (λ near. near.kind) (k.near c.args.key c.args.node.now))) (λ k kind. kind ≡ option_map (λ near. near.kind) (k.near c.args.key c.args.node.now))
    (λ k p. let is = c.as_slice.ensures.value ∙ p in (c.kind_in.ensures.value _ is, c.kind_in.ensures.memory _ is)) c.in_ok-rows.ensures.reads
