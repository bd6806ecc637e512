use Rattle.desk_text.specs.Texts.{as_line, echo, fault_text}
use Rattle.desk_run.proofs.WritingLemmas.{written_then, written_front}
use Rattle.desk_run.proofs.writing.write_store_end.Goals as goal

pub returns-in-Ok : goal.returns-in-Ok
returns-in-Ok g c =
    written_then (as_line (echo c.args.line.now)) (fault_text c.args.fault) _ _ _ c.write_fault.result c.in-Ok.ensures
    c.write_fault.ensures

pub returns-in-Err : goal.returns-in-Err
returns-in-Err g c = written_front (as_line (echo c.args.line.now)) (fault_text c.args.fault) _ _ c.in-Err.stop c.in-Err.ensures
