use Rattle.std.proofs.Common.{rules}
use Rattle.ancestry.proofs.tree.Tree.is_parent.Goals as goal

pub returns : goal.returns
returns c = search rules
