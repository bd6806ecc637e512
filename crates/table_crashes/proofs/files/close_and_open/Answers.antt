use Rattle.table_crashes.proofs.CloseLemmas.{closed_then}
use Rattle.table_crashes.proofs.files.close_and_open.Goals as goal

pub returns-in-Ok : goal.returns-in-Ok
returns-in-Ok g c = record {
  same = closed_then c.open_files.result c.args.desk c.in-Ok.files c.in-Ok.ensures.left c.open_files.ensures.honest c.open_files.ensures.found;
}
