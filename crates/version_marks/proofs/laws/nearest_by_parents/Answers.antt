use Rattle.version_marks.proofs.LineLemmas.{by_parent}
use Rattle.version_marks.proofs.laws.nearest_by_parents.Goals as goal

pub returns : goal.returns
returns c = λ t found fixed v forest known. by_parent found fixed t v forest known
