use Rattle.std.proofs.Common.{sym, subst}
use Rattle.version_nodes.specs.Trees.{IsLine}
use Rattle.ancestry.proofs.LineLemmas.{line_is}
use Rattle.ancestry.proofs.laws.one_line.Goals as goal

pub returns : goal.returns
returns c t n nodes forest = (line_is t n nodes forest, λ e. subst (IsLine t n) (sym e) (forest.lines n))
