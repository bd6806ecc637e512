use Rattle.std.proofs.Common.{rules}
use Rattle.bug_fields.proofs.fields.close_in.Goals as goal

pub returns-clause-done : goal.returns-clause-done
returns-clause-done c = search rules
