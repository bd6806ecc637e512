use Rattle.desk_run.proofs.CallLemmas.{acts_once, stays_same}
use Rattle.desk_run.proofs.laws.each_line_acts_once.Goals as goal

pub returns-clause-once : goal.returns-clause-once
returns-clause-once c = acts_once

pub returns-clause-same : goal.returns-clause-same
returns-clause-same c = stays_same
