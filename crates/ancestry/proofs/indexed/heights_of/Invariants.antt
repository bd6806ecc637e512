use Rattle.std.proofs.Common.{◌≡◌, drop}
use Rattle.std.specs.HashMap.{get}
use Rattle.std.specs.Option.{option_map_or}
use Rattle.ancestry.specs.Heights.{height}
use Rattle.version_nodes.specs.Nodes.{Node, same_node}
use Rattle.ancestry.proofs.indexed.heights_of.Given as goal

-- what is kept, and beside it the heights in the rest of the line, are those in the line
abbrev pub invariant-loop-place : goal.invariant-loop-place
invariant-loop-place l =
    (n : Node) → option_map_or (λ h. h) (get same_node l.heights n) (height (drop l.place l.line) n) ≡ height l.line n
