use Rattle.std.proofs.Common.{rules}
use Rattle.debver.proofs.fault.upstream_fault.Goals as goal

pub returns-in-Some : goal.returns-in-Some
returns-in-Some c = search rules
