use Rattle.table_opening.proofs.Imports.{AsksSchema}
use Rattle.table_schema.proofs.Exports.{◌≡◌, rules, subst, state}
use Rattle.table_opening.proofs.TransactionLemmas.{asks}
use Rattle.table_opening.proofs.calls.ask_schema.Goals as goal

pub returns-clause-asked : goal.returns-clause-asked
returns-clause-asked g c =
    let begun = c.transaction-tx.ensures.begun in
    let same : c.rollback.new.self.0 ≡ c.conn-1.given.0 = search rules in
    subst (λ h. AsksSchema (state g.S.Store c.args.conn.now) (state g.S.Store h) c.read_schema-answer.result) same
    (asks (state g.S.Store c.args.conn.now) (state g.S.Store c.read_schema-answer.new.tx.conn.now) (state g.S.Store c.rollback.new.self.0) c.read_schema-answer.result
    c.requires.idle.unlimited (rw begun at c.read_schema-answer.ensures.reads) c.rollback.ensures.ended c.rollback.ensures.undone c.rollback.ensures.survives)
