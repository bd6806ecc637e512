use Rattle.table_crashes.proofs.CloseLemmas.{files_honest, files_found}
use Rattle.table_crashes.proofs.files.open_files.Goals as goal

pub returns-in-Ok-clause-honest : goal.returns-in-Ok-clause-honest
returns-in-Ok-clause-honest g c = files_honest c.open_connection.result c.in-Ok.conn c.args.files c.in-Ok.ensures.found c.open_connection.ensures.honest

pub returns-in-Ok-clause-found : goal.returns-in-Ok-clause-found
returns-in-Ok-clause-found g c =
    files_found c.open_connection.result c.in-Ok.conn c.args.files c.in-Ok.ensures.found c.open_connection.ensures.honest c.open_connection.ensures.opened
