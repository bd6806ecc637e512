use Rattle.program_jobs.proofs.LeavingLemmas.{kept_by_init}
use Rattle.program_jobs.proofs.laws.init_overwrites_no_desk.Goals as goal

pub returns : goal.returns
returns g c first c0 c1 end did clean = kept_by_init g.S.Start c.args._files.now clean first c0 c1 end did
