use Rattle.desk_text.specs.Texts.{end_text}
use Rattle.desk_run.proofs.WritingLemmas.{written_then, written_front}
use Rattle.desk_run.proofs.writing.write_transcript.Goals as goal

pub returns-in-Ok : goal.returns-in-Ok
returns-in-Ok g c =
    written_then c.args.outcomes.now (end_text c.args.end c.args.line.now) _ _ _ c.write_end.result c.in-Ok.ensures
    c.write_end.ensures

pub returns-in-Err : goal.returns-in-Err
returns-in-Err g c =
    written_front c.args.outcomes.now (end_text c.args.end c.args.line.now) _ _ c.in-Err.stop c.in-Err.ensures
