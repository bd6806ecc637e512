use Rattle.std.specs.Option.{option_copied}
use Rattle.sqlite.specs.Held.{state}
use Rattle.table_writes.proofs.ChangeSteps.{written_also}
use Rattle.table_writes.proofs.change.put_sets.Goals as goal

pub returns-in_default-clause-acts : goal.returns-in_default-clause-acts
returns-in_default-clause-acts g c =
    written_also c.args.family.now c.args.change.now (option_copied c.args.old) (state g.S.Store c.args.tx.now.conn.now) (state g.S.Store c.rewrite_sets.new.tx.conn.now) c.rewrite_sets.result c.rewrite_sets.ensures.acts
