use Rattle.std.proofs.Common.{rules}
use Rattle.desk_run.proofs.directive.show_number.Goals as goal

pub returns-in-Some-clause-value : goal.returns-in-Some-clause-value
returns-in-Some-clause-value c = search rules
