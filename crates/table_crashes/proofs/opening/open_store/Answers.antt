use Rattle.table_crashes.proofs.OpenLemmas.{opened_store}
use Rattle.table_crashes.proofs.opening.open_store.Goals as goal

pub returns-in-Ok-clause-opened : goal.returns-in-Ok-clause-opened
returns-in-Ok-clause-opened g c =
    opened_store g.S.Store c.open_connection.result c.in-Ok.conn (g.S.Store.view c.args.store).trees c.in-Ok.ensures.opens c.in-Ok.ensures.trees
    c.open_connection.ensures.honest c.open_connection.ensures.opened
