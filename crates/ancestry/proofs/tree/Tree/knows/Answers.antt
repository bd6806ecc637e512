use Rattle.std.proofs.Common.{rules}
use Rattle.ancestry.proofs.tree.Tree.knows.Goals as goal

pub returns : goal.returns
returns c = search rules
