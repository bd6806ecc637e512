use Rattle.std.proofs.Common.{sym, subst}
use Rattle.std.specs.Option.{option_copied}
use Rattle.sqlite.specs.Held.{state}
use Rattle.table_schema.specs.Steps.{Acts}
use Rattle.table_writes.proofs.LineSteps.{FitsLine, IsAfter}
use Rattle.table_writes.proofs.keeping.put_kept.Goals as goal

pub returns-in-Some-clause-acts : goal.returns-in-Some-clause-acts
returns-in-Some-clause-acts g c =
    let id = c.args.id.now in
    let sender = c.args.from.now in
    let message = c.args.message.now in
    let place = c.args.place in
    let outcome = c.args.outcome.now in
    let known = option_copied c.args.old in
    let tree = option_copied c.args.family in
    subst (λ x. Acts (state g.S.Store c.args.tx.now.conn.now) (state g.S.Store c.put_both.new.tx.conn.now) c.put_both.result
    (FitsLine id sender message place outcome known tree (option_copied x)) (λ k d _. IsAfter id sender message place outcome known tree (option_copied x) k d)) (sym c.in-Some.is) c.put_both.ensures.acts
