use Rattle.table_crashes.proofs.OpenLemmas.{opened_over}
use Rattle.table_crashes.proofs.opening.open_connection.Goals as goal

pub returns-in-Ok-clause-opened : goal.returns-in-Ok-clause-opened
returns-in-Ok-clause-opened g c honest =
    let opened = c.requires.opened (c.in-Ok.ensures.honest honest) in
    opened_over g.S.Store g.met.S.Store.settled c.args.conn opened.0 opened.1 c.in-Ok.desk c.in-Ok.ensures.content c.in-Ok.ensures.kept c.in-Ok.ensures.serves c.in-Ok.ensures.crash honest
