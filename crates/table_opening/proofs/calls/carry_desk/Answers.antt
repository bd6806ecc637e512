use Rattle.table_opening.proofs.Imports.{IsIdle, IsCarried}
use Rattle.table_schema.proofs.Exports.{◌≡◌, rules, subst, ◌∙◌, state, no_content}
use Rattle.table_opening.proofs.TransactionLemmas.{carried}
use Rattle.table_opening.proofs.calls.carry_desk.Goals as goal

pub returns-clause-idle : goal.returns-clause-idle
returns-clause-idle g c =
    let begun = c.transaction-tx.ensures.begun in
    let same : c.finish.new.tx.0 ≡ c.conn-1.given.0 = search rules in
    let steps = (rw begun at (c.carry_over-done.ensures.carries (no_content 0))).survives in
    subst IsIdle same (record { autocommit = c.finish.ensures.ended; unlimited = c.finish.ensures.ends.survives.limit ∙ steps.limit ∙ c.requires.idle.unlimited })

pub returns-clause-carried : goal.returns-clause-carried
returns-clause-carried g c =
    let begun = c.transaction-tx.ensures.begun in
    let same : c.finish.new.tx.0 ≡ c.conn-1.given.0 = search rules in
    subst (λ h. IsCarried c.args.from (state g.S.Store c.args.conn.now) (state g.S.Store h) c.finish.result) same
    (carried (state g.S.Store c.args.conn.now) (state g.S.Store c.carry_over-done.new.tx.conn.now) (state g.S.Store c.finish.new.tx.0) c.carry_over-done.result c.finish.result c.requires.idle.unlimited
    c.finish.ensures.ends c.finish.ensures.ended c.args.from (λ k. rw begun at (c.carry_over-done.ensures.carries k)))
