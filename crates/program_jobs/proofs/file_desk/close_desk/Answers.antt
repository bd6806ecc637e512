use Rattle.program_jobs.proofs.LeftLemmas.{left_by}
use Rattle.program_jobs.proofs.file_desk.close_desk.Goals as goal

pub returns : goal.returns
returns g c = left_by g.S.Start c.args.desk c.close.result c.close-2.result c.close.ensures.conn c.close-2.ensures
