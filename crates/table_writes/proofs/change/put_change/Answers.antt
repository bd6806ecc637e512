use Rattle.std.proofs.Common.{sym, subst}
use Rattle.std.specs.Option.{option_copied}
use Rattle.sqlite.specs.Held.{state}
use Rattle.table_schema.specs.Steps.{Acts}
use Rattle.table_writes.proofs.ChangeSteps.{MayBeMade, IsDone, made_over}
use Rattle.table_writes.proofs.change.put_change.Goals as goal

pub returns-in-Some-clause-acts : goal.returns-in-Some-clause-acts
returns-in-Some-clause-acts g c =
    let old = state g.S.Store c.args.tx.now.conn.now in
    let new = state g.S.Store c.put_over.new.tx.conn.now in
    let change = c.args.change.now in
    let known = option_copied c.args.old in
    subst (λ f. Acts old new c.put_over.result (MayBeMade change known (option_copied f)) (λ k d _. IsDone change known (option_copied f) k d)) (sym c.in-Some.is)
    (made_over change known c.in-Some.family.now old new c.put_over.result c.put_over.ensures.acts)
