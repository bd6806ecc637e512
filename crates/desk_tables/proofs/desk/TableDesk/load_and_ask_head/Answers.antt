use Rattle.table_schema.proofs.Exports.{faults_later, state}
use Rattle.desk_tables.proofs.desk.TableDesk.load_and_ask_head.Goals as goal

pub returns-clause-cause : goal.returns-clause-cause
returns-clause-cause g c = λ was clean.
    let loaded = c.in_ok-load.ensures in
    let did = c.ask_head.ensures in
    let early = did.answer.holds.honest clean in
    faults_later (state g.S.Store c.args.self.now.conn) (state g.S.Store c.load.new.self.conn) (state g.S.Store c.ask_head.new.self.conn) _ _ loaded.survives did.survives early c.ask_head.result
    (did.cause (loaded.answer.holds.kept was early) clean)
