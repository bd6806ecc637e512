use Rattle.std.proofs.Common.{rules}
use Rattle.program_options.proofs.command_jobs.job_of_word.Goals as goal

pub returns-in-run : goal.returns-in-run
returns-in-run c = search rules
