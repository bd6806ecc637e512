-- How many nodes a line has from each of its nodes on: of two nodes, the one that comes first has
-- more.
-- This project's own rule.
use Rattle.std.specs.Prelude.{ℕ, ◌≡◌, ◌+◌, nat_lt, List, [], ◌∷◌, length, max, Option, Some, None, if◌then◌else◌}
use Rattle.std.specs.Option.{option_map_or}
use Rattle.std.specs.HashMap.{HashMap, get}
use Rattle.version_nodes.specs.Nodes.{Node, same_node}
use Rattle.version_nodes.specs.declared.statuses.MarkKind.{MarkKind}
use Rattle.version_nodes.specs.declared.statuses.MarkKind.TheVariants.{Found, Fixed}

-- how many nodes a line has from this one on; none, where it doesn't have this one
abbrev pub height : List Node → Node → ℕ
height [] n = 0
height (m ∷ line) n = if same_node m n then length line + 1 else height line n

-- the height of the one that stands highest
abbrev pub greatest_height : List Node → List Node → ℕ
greatest_height line [] = 0
greatest_height line (n ∷ nodes) = max (height line n) (greatest_height line nodes)

-- the map gives each node its height in the line, where a node that it hasn't counts as 0
abbrev pub HasHeights : {S : Type 0} → HashMap Node ℕ S → List Node → Type 0
HasHeights heights line = (n : Node) → option_map_or (λ h. h) (get same_node heights n) 0 ≡ height line n

-- the kind of a line's first mark, by the greatest heights of the nodes at which a bug is found and
-- fixed
abbrev pub kind_by_heights : ℕ → ℕ → Option MarkKind
kind_by_heights found fixed = if nat_lt found fixed then Some Fixed else if nat_lt 0 found then Some Found else None
