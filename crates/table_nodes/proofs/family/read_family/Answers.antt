use Rattle.table_nodes.proofs.Imports.{AreLinksOf}
use Rattle.table_schema.proofs.Exports.{◌≡◌, Err, sym, subst, rules, ⊤, state, IsForest, acts_stop}
use Rattle.table_nodes.proofs.FamilyLemmas.{acts_served, if_ok}
use Rattle.table_nodes.proofs.family.read_family.Goals as goal

pub returns-in_err-rows-clause-acts : goal.returns-in_err-rows-clause-acts
returns-in_err-rows-clause-acts g c =
    let is : c.from_residual.result ≡ Err c.in_err-rows.field-0.0 = search rules in
    rw is (acts_stop (state g.S.Store c.args.tx.now.conn.now) (state g.S.Store c.link_rows.new.tx.conn.now) c.in_err-rows.field-0.0 (λ _. ⊤) _ _ _ (λ _ _. tt) c.in_err-rows.ensures.reads)

pub returns-clause-acts : goal.returns-clause-acts
returns-clause-acts g c =
    acts_served (state g.S.Store c.args.tx.now.conn.now) (state g.S.Store c.link_rows.new.tx.conn.now) c.in_ok-rows.rows c.family_of.result (λ k. IsForest k.nodes)
    (λ k d rows. (d ≡ k) × AreLinksOf k.nodes rows.items) (λ k d family. (d ≡ k) × (IsForest k.nodes → family ≡ k.nodes))
    (λ k d p. if_ok c.family_of.result (λ family. family ≡ k.nodes) p.0 (λ forest. c.family_of.ensures.value k.nodes forest (subst (AreLinksOf k.nodes) (sym c.as_slice.ensures.value) p.1)))
    (λ k d forest p. c.family_of.ensures.memory k.nodes forest (subst (AreLinksOf k.nodes) (sym c.as_slice.ensures.value) p.1))
    c.in_ok-rows.ensures.serves c.in_ok-rows.ensures.reads
