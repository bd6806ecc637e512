use Rattle.std.proofs.Common.{rules}
use Rattle.bug_fields.proofs.fields.set_owner.Goals as goal

pub returns : goal.returns
returns c = search rules
