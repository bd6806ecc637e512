use Rattle.std.proofs.Common.{Err, rules}
use Rattle.program_options.specs.declared.job.WordsError.TheVariants.{Memory}
use Rattle.program_jobs.proofs.program.run_args_from.Goals as goal

pub returns-in-Err-clause-done : goal.returns-in-Err-clause-done
returns-in-Err-clause-done g c = record {
  reading = Err Memory;
  read = search rules;
  does = search rules;
}
