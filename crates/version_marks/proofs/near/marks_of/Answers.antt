use Rattle.std.proofs.Common.{rules}
use Rattle.version_marks.proofs.near.marks_of.Goals as goal

pub returns : goal.returns
returns c = search rules
