use Rattle.std.proofs.Common.{rules}
use Rattle.bug_core.proofs.unmerge.is_part.Goals as goal

pub returns-then-own : goal.returns-then-own
returns-then-own c = search rules

pub returns-else-own : goal.returns-else-own
returns-else-own c = search rules
