use Rattle.std.proofs.Common.{rules}
use Rattle.debver.proofs.parts.Parts.revision.Goals as goal

pub returns : goal.returns
returns c = search rules
