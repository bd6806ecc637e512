use Rattle.std.proofs.Common.{rules}
use Rattle.bug_fields.proofs.fields.open_if_closed.Goals as goal

pub returns-else-shared : goal.returns-else-shared
returns-else-shared c = search rules

pub returns-then-shared : goal.returns-then-shared
returns-then-shared c = search rules
