use Rattle.version_marks.proofs.LineLemmas.{sees_same}
use Rattle.version_marks.proofs.laws.nearest_elsewhere.Goals as goal

pub returns : goal.returns
returns c = λ t u changed found fixed v old new same out. sees_same t u changed same found fixed v old new out
