use Rattle.std.specs.Option.{option_copied}
use Rattle.ancestry.proofs.HeadLemmas.{Left}
use Rattle.ancestry.proofs.tree.Tree.heads.Given as goal

abbrev pub invariant-loop-node : goal.invariant-loop-node
invariant-loop-node l = Left l.self l.source l.heads.items (option_copied l.last) l.node-iterator
