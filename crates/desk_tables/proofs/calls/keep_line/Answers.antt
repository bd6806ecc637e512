use Rattle.desk_tables.proofs.Imports.{HasTreeIfAny, IsChanged, IsKnownIn, IsNextPlace}
use Rattle.table_schema.proofs.Exports.{◌≡◌, rules, subst, option_copied, state, Content, MayBePut, kept_after, IsKeptContent, acts_weaker}
use Rattle.desk_tables.proofs.KeepLemmas.{FitsLine}
use Rattle.desk_tables.proofs.TransactionLemmas.{altered}
use Rattle.desk_tables.proofs.calls.keep_line.Goals as goal

pub returns-clause-changed : goal.returns-clause-changed
returns-clause-changed g c =
    let begun = c.transaction-tx.ensures.begun in
    let same : c.finish.new.tx.0 ≡ c.conn-1.given.0 = search rules in
    let id = c.args.id.now in
    let sender = c.args.from.now in
    let message = c.args.message.now in
    let outcome = c.args.outcome.now in
    let change = option_copied c.args.change in
    let before = option_copied c.args.before in
    let Fits : Content → Type 0 = (λ k. FitsLine (option_copied c.args.family) before c.args.place id sender message outcome change k) in
    subst (λ h. IsChanged (state g.S.Store c.args.conn.now) (state g.S.Store h) c.finish.result Fits (λ k. kept_after id sender message outcome change k)) same
    (altered (state g.S.Store c.args.conn.now) (state g.S.Store c.put_kept-done.new.tx.conn.now) (state g.S.Store c.finish.new.tx.0) c.put_kept-done.result c.finish.result c.requires.idle.unlimited
    c.finish.ensures.ends c.finish.ensures.ended Fits (λ k. kept_after id sender message outcome change k)
    (acts_weaker _ _ c.put_kept-done.result Fits Fits (λ k d _. IsKeptContent k → MayBePut id sender message outcome change k → HasTreeIfAny (option_copied c.args.family) k change → IsKnownIn before k → IsNextPlace id c.args.place k → d ≡ kept_after id sender message outcome change k)
    (λ k d _. Fits k → d ≡ kept_after id sender message outcome change k) (λ k f. f) (λ k d a p f. p f.0 f.1 f.2 f.3 f.4)
    (rw begun at c.put_kept-done.ensures.acts))
    (rw begun at c.put_kept-done.ensures.serves))
