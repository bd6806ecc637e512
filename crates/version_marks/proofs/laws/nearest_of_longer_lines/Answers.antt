use Rattle.version_marks.proofs.LineLemmas.{longer}
use Rattle.version_marks.proofs.laws.nearest_of_longer_lines.Goals as goal

pub returns : goal.returns
returns c = longer
