use Rattle.program_jobs.proofs.LeavingLemmas.{leaves}
use Rattle.program_jobs.proofs.laws.a_job_leaves_a_desk.Goals as goal

pub returns : goal.returns
returns g c job r0 c0 c1 end did clean = leaves g.S.Start c.args._files.now clean job r0 c0 c1 end did
