-- How a node is looked for among others.
use Rattle.std.proofs.Common.{◌≡◌, ◌||◌, List, [], ◌∷◌, refl}
use Rattle.std.specs.List.{list_any}
use Rattle.version_nodes.specs.Nodes.{Node, same_node}
use Rattle.version_nodes.specs.NodeLaws.{same_node_equiv}
use Rattle.version_nodes.specs.Trees.{has_node}

-- a node is looked for by the same test, with its sides exchanged
pub has_turned : (xs : List Node) (n : Node) → list_any (λ y. same_node y n) xs ≡ has_node xs n
has_turned [] n = refl
has_turned (x ∷ xs) n = λ i. same_node_equiv.symm x n i || has_turned xs n i
