use Rattle.std.proofs.Common.{rules}
use Rattle.debver.proofs.parts.Parts.revision_or_zero.Goals as goal

pub returns-in-None : goal.returns-in-None
returns-in-None c = search rules
