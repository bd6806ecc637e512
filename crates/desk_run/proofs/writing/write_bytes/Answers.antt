use Rattle.desk_run.proofs.WritingLemmas.{is_written}
use Rattle.desk_run.proofs.writing.write_bytes.Goals as goal

pub returns : goal.returns
returns g c = is_written _ _ _ c.write_out.result c.write_out.ensures.all c.write_out.ensures.unfinished c.write_out.ensures.write
