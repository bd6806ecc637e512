use Rattle.program_jobs.proofs.UntouchedLemmas.{fresh_untouched}
use Rattle.program_jobs.proofs.connecting.open_files.Goals as goal

pub returns-in-Ok-clause-untouched : goal.returns-in-Ok-clause-untouched
returns-in-Ok-clause-untouched g c = fresh_untouched g.S.Start c.in-Ok.files c.in-Ok.ensures.fresh.0 c.in-Ok.ensures.fresh.1
