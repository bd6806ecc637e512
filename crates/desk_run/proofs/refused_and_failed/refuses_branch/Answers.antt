use Rattle.std.proofs.Common.{rules}
use Rattle.desk_run.proofs.refused_and_failed.refuses_branch.Goals as goal

pub returns-in-Ok-Err : goal.returns-in-Ok-Err
returns-in-Ok-Err c = search rules
