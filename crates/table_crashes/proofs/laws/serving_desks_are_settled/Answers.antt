use Rattle.table_crashes.proofs.OpenLemmas.{serving_settled}
use Rattle.table_crashes.proofs.laws.serving_desks_are_settled.Goals as goal

pub returns : goal.returns
returns g c = serving_settled g.S.Store g.met.S.Store.settled c.args._desk.now
