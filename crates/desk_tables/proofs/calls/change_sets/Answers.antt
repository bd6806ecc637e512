use Rattle.desk_tables.proofs.Imports.{HasTree, IsChanged, IsKnownIn}
use Rattle.table_schema.proofs.Exports.{◌≡◌, rules, subst, option_copied, state, Content, FitsContent, changed, IsKeptContent, acts_weaker}
use Rattle.desk_tables.proofs.KeptLemmas.{FitsOver}
use Rattle.desk_tables.proofs.TransactionLemmas.{altered}
use Rattle.desk_tables.proofs.calls.change_sets.Goals as goal

pub returns-clause-changed : goal.returns-clause-changed
returns-clause-changed g c =
    let begun = c.transaction-tx.ensures.begun in
    let same : c.finish.new.tx.0 ≡ c.conn-1.given.0 = search rules in
    let change = c.args.change.now in
    let tree = option_copied c.args.family in
    let before = option_copied c.args.before in
    let Fits : Content → Type 0 = (λ k. FitsOver tree change before k) in
    subst (λ h. IsChanged (state g.S.Store c.args.conn.now) (state g.S.Store h) c.finish.result Fits (λ k. changed k change)) same
    (altered (state g.S.Store c.args.conn.now) (state g.S.Store c.put_change-done.new.tx.conn.now) (state g.S.Store c.finish.new.tx.0) c.put_change-done.result c.finish.result c.requires.idle.unlimited
    c.finish.ensures.ends c.finish.ensures.ended Fits (λ k. changed k change)
    (acts_weaker _ _ c.put_change-done.result Fits Fits (λ k d _. IsKeptContent k → FitsContent k change → HasTree tree k change → IsKnownIn before k → d ≡ changed k change) (λ k d _. Fits k → d ≡ changed k change)
    (λ k f. f) (λ k d a p f. p f.0 f.1 f.2 f.3)
    (rw begun at c.put_change-done.ensures.acts))
    (rw begun at c.put_change-done.ensures.serves))
