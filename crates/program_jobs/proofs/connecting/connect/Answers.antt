use Rattle.program_jobs.proofs.UntouchedLemmas.{finds_in}
use Rattle.program_jobs.proofs.connecting.connect.Goals as goal

pub returns-in-Ok-clause-found : goal.returns-in-Ok-clause-found
returns-in-Ok-clause-found g c clean = finds_in g.S.Start c.args.files c.in-Ok.conn c.requires.untouched (c.in-Ok.ensures.found clean)

pub returns-in-Err-clause-cause : goal.returns-in-Err-clause-cause
returns-in-Err-clause-cause g c = record {
  error = c.in-Err.error;
  is = c.cause_of_error.ensures;
  files = c.args.files;
  untouched = c.requires.untouched;
  why = c.in-Err.ensures.cause;
  leaves = c.in-Err.ensures.unharmed;
}
