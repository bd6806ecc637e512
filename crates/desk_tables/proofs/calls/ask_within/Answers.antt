use Rattle.table_schema.proofs.Exports.{◌≡◌, rules}
use Rattle.desk_tables.proofs.TransactionLemmas.{asked_over}
use Rattle.desk_tables.proofs.calls.ask_within.Goals as goal

pub returns-clause-asked : goal.returns-clause-asked
returns-clause-asked g c =
    let begun = c.transaction-tx.ensures.begun in
    let same : c.rollback.new.self.0 ≡ c.conn-1.given.0 = search rules in
    asked_over c.ask-answer.result _ _ g.S.Store c.args.conn.now c.ask-answer.new.tx.conn.now c.rollback.new.self.0 c.conn-1.given.0 same c.requires.idle.unlimited
    (rw begun at c.ask-answer.ensures.asks) c.rollback.ensures.undone c.rollback.ensures.survives
