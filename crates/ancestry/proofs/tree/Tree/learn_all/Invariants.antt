use Rattle.std.proofs.Common.{◌≡◌, drop}
use Rattle.version_nodes.specs.Trees.{is_parent, IsForest}
use Rattle.version_nodes.specs.Branches.{learn_all}
use Rattle.version_nodes.specs.Branches.{Extends}
use Rattle.ancestry.specs.Kept.{Adds}
use Rattle.ancestry.proofs.tree.Tree.learn_all.Given as goal

abbrev pub invariant-loop-node : goal.invariant-loop-node
invariant-loop-node l = record {
  left : learn_all l.self (drop l.node-index l.nodes) ≡ learn_all l.fn.self l.nodes;
  extends : Extends l.fn.self l.nodes l.self;
  parents : Adds (is_parent l.fn.self) l.nodes (is_parent l.self);
  forest : IsForest l.self;
}
