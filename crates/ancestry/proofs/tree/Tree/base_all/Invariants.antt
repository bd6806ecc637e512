use Rattle.std.proofs.Common.{◌≡◌, ◌∷◌, true, drop}
use Rattle.version_nodes.specs.Nodes.{Node}
use Rattle.version_nodes.specs.Trees.{has_node, knows, is_parent, IsForest}
use Rattle.version_nodes.specs.Branches.{base_all}
use Rattle.version_nodes.specs.Branches.{Extends}
use Rattle.ancestry.specs.Kept.{Adds}
use Rattle.ancestry.proofs.tree.Tree.base_all.Given as goal

abbrev pub invariant-loop-place : goal.invariant-loop-place
invariant-loop-place l = record {
  left : base_all l.place l.self (l.node ∷ drop l.place l.others) ≡ base_all 0 l.fn.self l.nodes;
  here : has_node l.nodes l.node ≡ true;
  above : (q : Node) → has_node l.others q ≡ true → has_node l.nodes q ≡ true;
  known : (q : Node) → has_node l.nodes q ≡ true → knows l.self q ≡ true;
  extends : Extends l.fn.self l.nodes l.self;
  parents : Adds (is_parent l.fn.self) l.nodes (is_parent l.self);
  forest : IsForest l.self;
}
