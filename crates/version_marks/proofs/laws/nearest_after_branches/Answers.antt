use Rattle.version_marks.proofs.LineLemmas.{sees_still}
use Rattle.version_marks.proofs.laws.nearest_after_branches.Goals as goal

pub returns : goal.returns
returns c = λ t u nodes found fixed v near old new ext h. sees_still t u nodes found fixed v near old new ext h
