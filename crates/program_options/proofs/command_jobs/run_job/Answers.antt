use Rattle.std.proofs.Common.{rules}
use Rattle.program_options.proofs.command_jobs.run_job.Goals as goal

pub returns : goal.returns
returns c = search rules
