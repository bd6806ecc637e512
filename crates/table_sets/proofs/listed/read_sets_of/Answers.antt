use Rattle.table_sets.proofs.Imports.{AreSetsOf, listed_row, ListedSet}
use Rattle.table_schema.proofs.Exports.{◌≡◌, List, map, ◌∙◌, Err, rules, ⊤, state, acts_stop, reads_work, answer_is}
use Rattle.table_sets.proofs.listed.read_sets_of.Goals as goal

pub returns-in_err-rows-clause-reads : goal.returns-in_err-rows-clause-reads
returns-in_err-rows-clause-reads g c =
    let is : c.from_residual.result ≡ Err c.in_err-rows.field-0.0 = search rules in
    rw is (acts_stop (state g.S.Store c.args.tx.now.conn.now) (state g.S.Store c.listed_rows.new.tx.conn.now) c.in_err-rows.field-0.0 (λ _. ⊤) _ _ _ (λ _ _. tt) c.in_err-rows.ensures.reads)

pub returns-clause-reads : goal.returns-clause-reads
returns-clause-reads g c =
    reads_work (state g.S.Store c.args.tx.now.conn.now) (state g.S.Store c.listed_rows.new.tx.conn.now) c.in_ok-rows.rows c.sets_in.result (λ _. ⊤)
    (λ k rows. (ss : List ListedSet) × (rows.items ≡ map listed_row ss) × AreSetsOf c.args.«package».now k ss) (λ k sets. AreSetsOf c.args.«package».now k sets.items)
    (λ k p. let is = c.as_slice.ensures.value ∙ p.1 in (answer_is (λ sets. sets.items) (AreSetsOf c.args.«package».now k) p.0 c.sets_in.result p.2 (c.sets_in.ensures.value _ is), c.sets_in.ensures.memory _ is)) c.in_ok-rows.ensures.reads
