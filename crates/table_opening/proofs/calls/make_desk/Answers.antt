use Rattle.table_opening.proofs.Imports.{IsMade}
use Rattle.table_schema.proofs.Exports.{◌≡◌, rules, subst, state}
use Rattle.table_history.proofs.BuildLemmas.{blank_begun}
use Rattle.table_opening.proofs.TransactionLemmas.{made}
use Rattle.table_opening.proofs.calls.make_desk.Goals as goal

pub returns-clause-made : goal.returns-clause-made
returns-clause-made g c =
    let begun = c.transaction-tx.ensures.begun in
    let same : c.finish.new.tx.0 ≡ c.conn-1.given.0 = search rules in
    subst (λ h. IsMade c.args.first (state g.S.Store c.args.conn.now) (state g.S.Store h) c.finish.result) same
    (made (state g.S.Store c.args.conn.now) (state g.S.Store c.make_tables-done.new.tx.conn.now) (state g.S.Store c.finish.new.tx.0) c.make_tables-done.result c.finish.result c.requires.idle.unlimited
    c.finish.ensures.ends c.finish.ensures.ended c.args.first (blank_begun g.S.Store c.args.conn.now c.requires.blank c.requires.live c.requires.idle.unlimited) (rw begun at c.make_tables-done.ensures.builds))
