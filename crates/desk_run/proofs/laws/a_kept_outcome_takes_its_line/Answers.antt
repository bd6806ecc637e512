use Rattle.desk_run.proofs.OneLemmas.{took_one}
use Rattle.desk_run.proofs.laws.a_kept_outcome_takes_its_line.Goals as goal

pub returns : goal.returns
returns c = took_one
