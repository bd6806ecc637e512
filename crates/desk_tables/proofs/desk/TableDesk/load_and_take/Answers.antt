use Rattle.table_schema.proofs.Exports.{faults_later, state}
use Rattle.desk_tables.proofs.desk.TableDesk.load_and_take.Goals as goal

pub returns-clause-cause : goal.returns-clause-cause
returns-clause-cause g c = λ was clean.
    let loaded = c.in_ok-load.ensures in
    let did = c.take.ensures in
    let early = did.answer.honest clean in
    let kept = loaded.answer.holds.kept was early in
    faults_later (state g.S.Store c.args.self.now.conn) (state g.S.Store c.load.new.self.conn) (state g.S.Store c.take.new.self.conn) _ _ loaded.survives (did.crash (λ _. kept)) early c.take.result
    (did.cause kept clean)
