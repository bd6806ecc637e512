-- Which node is based on which.
-- This project's own rule.
use Rattle.std.specs.Prelude.{ℕ, suc, zero, ◌≡◌, ◌&&◌, Bool, true, false, not, List, [], ◌∷◌, length, drop, filter, Option, Some}
use Rattle.std.specs.Prelude.{None, is_some}
use Rattle.std.specs.List.{list_any}
use Rattle.std.specs.Option.{option_flatten, option_map_or}
use Rattle.std.specs.List.Sorted.{IsStrictlySortedBy}
use Rattle.std.specs.Str.{bytes_eq}
use Rattle.std.specs.Map.{keys_of, values_of, lookup}
use Rattle.std.specs.BTreeMap.{is_at}
use Rattle.version_nodes.specs.Nodes.{Node, IsNode, same_node, node_cmp}

-- the known nodes in node order, each with its parent, if it has one
abbrev pub Ancestry : Type 0
Ancestry = List (Node × Option Node)

-- no node is known
abbrev pub no_nodes : Ancestry
no_nodes = []

abbrev pub has_node : List Node → Node → Bool
has_node nodes n = list_any (same_node n) nodes

-- what is known of a node: nothing, or the parent that it has or has not
abbrev pub known_at : Ancestry → Node → Option (Option Node)
known_at t n = lookup (is_at (node_cmp n)) t

abbrev pub knows : Ancestry → Node → Bool
knows t n = is_some (known_at t n)

abbrev pub parent_of : Ancestry → Node → Option Node
parent_of t n = option_flatten (known_at t n)

-- The list is the node's line: the node, its parent, and so on to one that has none.
abbrev pub IsLine : Ancestry → Node → List Node → Type 0
IsLine t n [] = ⊥
IsLine t n (m ∷ []) = (m ≡ n) × (parent_of t n ≡ None)
IsLine t n (m ∷ p ∷ more) = (m ≡ n) × (parent_of t n ≡ Some p) × IsLine t p (p ∷ more)

-- a node's line, as far as so many steps go
abbrev pub line_within : ℕ → Ancestry → Node → List Node
line_within zero t n = n ∷ []
line_within (suc steps) t n = n ∷ option_map_or (line_within steps t) (parent_of t n) []

-- The line of a node; an unknown node's is itself alone.
-- It has no more steps than there are known nodes.
abbrev pub line : Ancestry → Node → List Node
line t n = line_within (length t) t n

-- the proper ancestors: the line after the node itself
abbrev pub ancestors : Ancestry → Node → List Node
ancestors t n = drop 1 (line t n)

-- whether p is a proper ancestor of n
abbrev pub is_ancestor : Ancestry → Node → Node → Bool
is_ancestor t p n = has_node (ancestors t n) p

-- What holds of the ancestry of every tree, and of every sound desk.
pub record IsForest (t : Ancestry) : Type 0 where
  -- each known node stands once, in node order, and is a package name and a version
  pub ascending : IsStrictlySortedBy node_cmp (keys_of t)
  pub valid : (n : Node) → knows t n ≡ true → IsNode n
  -- parents are known
  pub parents : (n p : Node) → parent_of t n ≡ Some p → knows t p ≡ true
  -- no cycles: from each node the parents lead to one that has none
  pub lines : (n : Node) → IsLine t n (line t n)

-- whether the node is some node's parent, whatever the source of the child
abbrev pub is_parent : Ancestry → Node → Bool
is_parent t n = list_any (λ parent. option_map_or (same_node n) parent false) (values_of t)

-- the heads of a source package: its known nodes that are no node's parent, in total order
abbrev pub heads : Ancestry → List ℕ → List Node
heads t source = filter (λ n. bytes_eq n.source source && not (is_parent t n)) (keys_of t)
