use Rattle.std.proofs.Common.{rules}
use Rattle.debver.proofs.name.has_name_start.Goals as goal

pub returns-in-Some : goal.returns-in-Some
returns-in-Some c = search rules
