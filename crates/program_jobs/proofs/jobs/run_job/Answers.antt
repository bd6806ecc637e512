use Rattle.program_jobs.proofs.jobs.run_job.Goals as goal

pub returns : goal.returns
returns g c = c.run_job_from.ensures
