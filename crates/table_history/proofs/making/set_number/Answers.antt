use Rattle.table_schema.proofs.Exports.{state}
use Rattle.table_history.proofs.BuildLemmas.{builds_run}
use Rattle.table_history.proofs.MetaRow.{number_set_text, sets_number}
use Rattle.table_history.proofs.making.set_number.Goals as goal

pub returns-clause-sets : goal.returns-clause-sets
returns-clause-sets g c = λ from content rows.
    builds_run number_set_text _ _ (sets_number from content rows) (state g.S.Store c.args.tx.now.conn.now) (state g.S.Store c.make.new.tx.conn.now) c.make.result c.make.ensures.runs
