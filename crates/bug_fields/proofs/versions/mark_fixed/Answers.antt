use Rattle.std.proofs.Common.{rules}
use Rattle.bug_fields.proofs.versions.mark_fixed.Goals as goal

pub returns : goal.returns
returns c = search rules
