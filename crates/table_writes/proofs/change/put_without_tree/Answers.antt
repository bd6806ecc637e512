use Rattle.std.specs.Option.{option_copied}
use Rattle.sqlite.specs.Held.{state}
use Rattle.table_writes.proofs.ChangeSteps.{made_without}
use Rattle.table_writes.proofs.change.put_without_tree.Goals as goal

pub returns-clause-acts : goal.returns-clause-acts
returns-clause-acts g c =
    made_without c.args.change.now (option_copied c.args.old) c.new-family.result (state g.S.Store c.args.tx.now.conn.now) (state g.S.Store c.put_over.new.tx.conn.now) c.put_over.result c.put_over.ensures.acts
