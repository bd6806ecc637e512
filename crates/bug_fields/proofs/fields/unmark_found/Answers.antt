use Rattle.std.proofs.Common.{rules}
use Rattle.bug_fields.proofs.fields.unmark_found.Goals as goal

pub returns-clause-done : goal.returns-clause-done
returns-clause-done c = search rules
