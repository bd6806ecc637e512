use Rattle.program_jobs.proofs.RefusalLemmas.{unopened_files, unopened_empty}
use Rattle.program_jobs.proofs.file_desk.open_desk.Goals as goal

pub returns-then-is_empty-clause-cause : goal.returns-then-is_empty-clause-cause
returns-then-is_empty-clause-cause g c = unopened_empty g.S.Start c.is_empty.new.files c.is_empty.ensures.untouched (c.is_empty.ensures.empty c.if-is_empty.true)

pub returns-in-Err-connect-clause-cause : goal.returns-in-Err-connect-clause-cause
returns-in-Err-connect-clause-cause g c = unopened_files g.S.Start c.in-Err-connect.cause c.in-Err-connect.rest c.in-Err-connect.ensures.cause
