use Rattle.std.proofs.Common.{◌++◌}
use Rattle.desk_run.proofs.WritingLemmas.{written_then, written_front}
use Rattle.desk_run.proofs.writing.write_three.Goals as goal

pub returns-in-Ok : goal.returns-in-Ok
returns-in-Ok g c =
    written_then c.args.first.now (c.args.second.now ++ c.args.third.now) _ _ _ c.write_two.result c.in-Ok.ensures
    c.write_two.ensures

pub returns-in-Err : goal.returns-in-Err
returns-in-Err g c =
    written_front c.args.first.now (c.args.second.now ++ c.args.third.now) _ _ c.in-Err.stop c.in-Err.ensures
