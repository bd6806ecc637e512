use Rattle.program_jobs.proofs.RefusalLemmas.{unmade_files}
use Rattle.program_jobs.proofs.file_desk.create_desk.Goals as goal

pub returns-in-Err-connect-clause-cause : goal.returns-in-Err-connect-clause-cause
returns-in-Err-connect-clause-cause g c = unmade_files g.S.Start c.in-Err-connect.cause c.in-Err-connect.rest c.in-Err-connect.ensures.cause
