use Rattle.std.proofs.Common.{true, IsTrue}
use Rattle.table_crashes.proofs.StartLemmas.{created_again, created_done, created_either, refused_either}
use Rattle.table_crashes.proofs.starts.create_and_crash.Goals as goal

pub returns-in-Ok-clause-done : goal.returns-in-Ok-clause-done
returns-in-Ok-clause-done g c =
    created_done g.S.Store (IsTrue true) c.args.first c.crash_and_open.result
    (created_again g.S.Store g.met.S.Store.settled c.args.first c.in-Ok.desk c.crash_and_open.result c.in-Ok.ensures.serves c.in-Ok.ensures.kept c.in-Ok.ensures.empty c.in-Ok.ensures.none_kept
    c.crash_and_open.ensures.honest c.crash_and_open.ensures.settled)

pub returns-in-Ok-clause-either : goal.returns-in-Ok-clause-either
returns-in-Ok-clause-either g c = created_either g.S.Store c.args.conn c.args.first c.crash_and_open.result
    (created_again g.S.Store g.met.S.Store.settled c.args.first c.in-Ok.desk c.crash_and_open.result c.in-Ok.ensures.serves c.in-Ok.ensures.kept c.in-Ok.ensures.empty c.in-Ok.ensures.none_kept
    c.crash_and_open.ensures.honest c.crash_and_open.ensures.settled)

pub returns-in-Err-clause-either : goal.returns-in-Err-clause-either
returns-in-Err-clause-either g c =
    refused_either g.S.Store c.args.conn c.in-Err.conn c.args.first c.crash_and_find.result c.requires.some c.requires.few c.in-Err.ensures.crash
    c.crash_and_find.ensures.honest c.crash_and_find.ensures.left
