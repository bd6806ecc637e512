use Rattle.desk_tables.proofs.Imports.{IsGrown, changed_of, IsChanged}
use Rattle.table_schema.proofs.Exports.{◌≡◌, ◌∙◌, rules, subst, state, with_nodes, Content, IsKeptContent, acts_weaker}
use Rattle.desk_tables.proofs.BranchLemmas.{changed_same}
use Rattle.desk_tables.proofs.TransactionLemmas.{altered}
use Rattle.desk_tables.proofs.calls.put_open.Goals as goal

pub returns-clause-changed : goal.returns-clause-changed
returns-clause-changed g c =
    let begun = c.transaction-tx.ensures.begun in
    let u = c.args.family.now in
    let nodes = c.as_slice.result.now in
    let same : c.finish.new.tx.0 ≡ c.conn-1.given.0 = search rules in
    let Fits : Content → Type 0 = (λ k. IsKeptContent k × IsGrown k.nodes u nodes) in
    changed_same (state g.S.Store c.args.conn.now) (state g.S.Store c.conn-1.given.0) c.finish.result u nodes
    (changed_of u c.args.before.unknown.items c.args.before.roots.items) (c.as_slice.ensures.value ∙ rw c.tree.ensures.tree at c.in_ok-changed.ensures)
    (subst (λ h. IsChanged (state g.S.Store c.args.conn.now) (state g.S.Store h) c.finish.result Fits (λ k. with_nodes u k)) same
    (altered (state g.S.Store c.args.conn.now) (state g.S.Store c.put_branch-done.new.tx.conn.now) (state g.S.Store c.finish.new.tx.0) c.put_branch-done.result c.finish.result c.requires.idle.unlimited
    c.finish.ensures.ends c.finish.ensures.ended Fits (λ k. with_nodes u k)
    (acts_weaker _ _ c.put_branch-done.result Fits Fits (λ k d _. IsKeptContent k → IsGrown k.nodes u nodes → d ≡ with_nodes u k) (λ k d _. Fits k → d ≡ with_nodes u k) (λ k f. f) (λ k d a p f. p f.0 f.1)
    (rw begun at c.put_branch-done.ensures.acts))
    (rw begun at c.put_branch-done.ensures.serves)))
