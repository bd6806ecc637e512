use Rattle.std.proofs.Common.{rules}
use Rattle.bug_fields.proofs.fields.clear_forwarded.Goals as goal

pub returns : goal.returns
returns c = search rules
