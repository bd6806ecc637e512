use Rattle.std.proofs.Common.{◌≡◌, ◌++◌, length}
use Rattle.std.specs.Option.{option_copied}
use Rattle.version_nodes.specs.Trees.{line}
use Rattle.ancestry.proofs.LineLemmas.{line_above}
use Rattle.ancestry.proofs.tree.Tree.line.Given as goal

-- the copies so far, and the line from here on, are the whole line
abbrev pub invariant-loop-at : goal.invariant-loop-at
invariant-loop-at l = l.nodes.items ++ line_above (line l.self) (option_copied l.at) ≡ line l.self l.node

abbrev pub decreases-loop-at : goal.decreases-loop-at
decreases-loop-at l = length (line_above (line l.self) (option_copied l.at))
